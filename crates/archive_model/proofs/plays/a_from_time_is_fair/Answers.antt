use Rattle.archive_model.proofs.FromLaws.{from_is_fair}
use Rattle.archive_model.proofs.plays.a_from_time_is_fair.Goals as goal

pub returns : goal.returns
returns c = from_is_fair
