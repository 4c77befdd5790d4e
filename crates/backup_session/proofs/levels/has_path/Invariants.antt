use Rattle.std.proofs.Common.{◌≡◌, take, false}
use Rattle.backup_session.specs.Levels.{has_path}
use Rattle.backup_session.proofs.levels.has_path.Given as goal

abbrev pub invariant-loop-there : goal.invariant-loop-there
invariant-loop-there l = has_path (take l.there-index l.paths) l.path ≡ false
