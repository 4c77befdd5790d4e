use Rattle.std.proofs.Common.{◌≡◌, ℕ, [], length}
use Rattle.media_core.specs.Events.{file_bytes}
use Rattle.media_core.proofs.bytes.empty_files.Given as goal

abbrev pub invariant-loop-index : goal.invariant-loop-index
invariant-loop-index l = record { count : length l.files.items ≡ l.index; empty : (k : ℕ) → file_bytes l.files.items k ≡ [] }
