use Rattle.std.proofs.Common.{◌≡◌, take}
use Rattle.archive_model.specs.Archives.{needs}
use Rattle.restore_chain.proofs.needs.needs_of_chain.Given as goal

abbrev pub invariant-loop-id : goal.invariant-loop-id
invariant-loop-id l = l.needs.items ≡ needs l.budb.database.listed (take l.id-index l.ids) l.name
