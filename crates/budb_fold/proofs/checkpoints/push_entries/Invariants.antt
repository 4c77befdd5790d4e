use Rattle.std.proofs.Common.{◌≡◌, ◌++◌, take}
use Rattle.std.specs.Prelude.{map}
use Rattle.budb_fold.specs.Checkpoints.{entry_change}
use Rattle.budb_fold.proofs.checkpoints.push_entries.Given as goal

abbrev pub invariant-loop-entry : goal.invariant-loop-entry
invariant-loop-entry l = l.changes ≡ l.initial.changes ++ map (entry_change l.set) (take l.entry-index l.entries)
