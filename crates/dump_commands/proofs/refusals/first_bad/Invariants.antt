use Rattle.std.proofs.Common.{◌≡◌, drop}
use Rattle.dump_commands.specs.Refusals.{first_bad}
use Rattle.dump_commands.proofs.refusals.first_bad.Given as goal

abbrev pub invariant-loop-place : goal.invariant-loop-place
invariant-loop-place l = first_bad l.cell l.places ≡ first_bad l.cell (drop l.place-index l.places)
