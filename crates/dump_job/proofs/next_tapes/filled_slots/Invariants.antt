use Rattle.std.proofs.Common.{◌≡◌, map, take}
use Rattle.dump_job.specs.Passing.{slot_of}
use Rattle.dump_job.proofs.next_tapes.filled_slots.Given as goal

abbrev pub invariant-loop-one : goal.invariant-loop-one
invariant-loop-one l = l.slots ≡ map slot_of (take l.one-index l.filled)
