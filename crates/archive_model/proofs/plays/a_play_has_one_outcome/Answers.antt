use Rattle.std.proofs.Common.{None}
use Rattle.archive_model.proofs.OnceLaws.{plays_once}
use Rattle.archive_model.proofs.plays.a_play_has_one_outcome.Goals as goal

pub returns : goal.returns
returns c = λ slots name ds a b. plays_once slots name None ds a b
