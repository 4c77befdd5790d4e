use Rattle.std.proofs.Common.{◌≡◌, map, take}
use Rattle.budb_changes.specs.declared.change.Change.TheVariants.{Forget}
use Rattle.backup_session.proofs.dumps.forgets_of.Given as goal

abbrev pub invariant-loop-id : goal.invariant-loop-id
invariant-loop-id l = l.list ≡ map Forget (take l.id-index l.ids)
