use Rattle.std.proofs.Common.{◌≡◌, [], take, drop}
use Rattle.backup_session.specs.Levels.{first_known}
use Rattle.backup_session.proofs.levels.first_known.Given as goal

abbrev pub invariant-loop-at : goal.invariant-loop-at
invariant-loop-at l = first_known l.levels (take l.at l.paths) (drop l.at l.paths) ≡ first_known l.levels [] l.paths
