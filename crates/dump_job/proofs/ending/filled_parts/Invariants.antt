use Rattle.std.proofs.Common.{◌≡◌, map, take}
use Rattle.dump_job.specs.Ending.{place_of_part}
use Rattle.dump_job.proofs.ending.filled_parts.Given as goal

abbrev pub invariant-loop-one : goal.invariant-loop-one
invariant-loop-one l = l.parts ≡ map place_of_part (take l.one-index l.filled)
