use Rattle.std.proofs.Common.{◌≡◌, ◌+◌, ◌-◌, ℕ, vec_len}
use Rattle.media_core.specs.Events.{file_bytes}
use Rattle.media_core.proofs.bytes.make_room.Given as goal

abbrev pub invariant-loop-alloc : goal.invariant-loop-alloc
invariant-loop-alloc l = (k : ℕ) → file_bytes l.files.items k ≡ file_bytes l.fn.files.items k

abbrev pub decreases-loop-alloc : goal.decreases-loop-alloc
decreases-loop-alloc l = l.f + 1 - vec_len l.files
