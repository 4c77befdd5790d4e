use Rattle.std.proofs.Common.{◌≡◌, drop}
use Rattle.backup_session.specs.Levels.{first_missing}
use Rattle.backup_session.proofs.levels.first_missing.Given as goal

abbrev pub invariant-loop-path : goal.invariant-loop-path
invariant-loop-path l = first_missing l.levels (drop l.path-index l.paths) ≡ first_missing l.levels l.paths
