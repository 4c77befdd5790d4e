use Rattle.std.proofs.Common.{◌≡◌, take}
use Rattle.std.specs.Prelude.{map}
use Rattle.budb_changes.specs.declared.change.Change.TheVariants.{AddLevel}
use Rattle.backup_session.proofs.levels.levels_of.Given as goal

abbrev pub invariant-loop-path : goal.invariant-loop-path
invariant-loop-path l = l.list ≡ map (λ path. AddLevel path l.expiry) (take l.path-index l.paths)
