use Rattle.std.proofs.Common.{None}
use Rattle.archive_model.proofs.MadeLaws.{made_volume}
use Rattle.archive_model.proofs.plays.what_is_made_is_a_volume.Goals as goal

pub returns : goal.returns
returns c = λ slots name ds v plays. made_volume slots name ds None v tt plays
