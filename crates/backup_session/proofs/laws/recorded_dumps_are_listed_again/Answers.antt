use Rattle.backup_session.proofs.TurnLaws.{listed_again}
use Rattle.backup_session.proofs.laws.recorded_dumps_are_listed_again.Goals as goal

pub returns : goal.returns
returns c = listed_again c.one_reading.ensures
