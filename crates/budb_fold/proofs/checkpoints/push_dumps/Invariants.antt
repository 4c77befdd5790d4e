use Rattle.std.proofs.Common.{◌≡◌, ◌++◌, take}
use Rattle.std.specs.Prelude.{map}
use Rattle.budb_changes.specs.declared.change.Change.TheVariants.{Found}
use Rattle.budb_fold.proofs.checkpoints.push_dumps.Given as goal

abbrev pub invariant-loop-dump : goal.invariant-loop-dump
invariant-loop-dump l = l.changes ≡ l.initial.changes ++ map Found (take l.dump-index l.listed)
