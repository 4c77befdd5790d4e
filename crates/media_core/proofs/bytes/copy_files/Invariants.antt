use Rattle.std.proofs.Common.{◌≡◌, ℕ, take, vec_len}
use Rattle.media_core.specs.Events.{file_bytes}
use Rattle.media_core.proofs.bytes.copy_files.Given as goal

abbrev pub invariant-loop-file : goal.invariant-loop-file
invariant-loop-file l = record { count : vec_len l.copy ≡ l.file-index; same : (k : ℕ) → file_bytes l.copy.items k ≡ file_bytes (take l.file-index l.files) k }
