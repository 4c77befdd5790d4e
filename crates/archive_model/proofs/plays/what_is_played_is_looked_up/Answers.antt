use Rattle.archive_model.proofs.PlayedLaws.{played_is_looked_up}
use Rattle.archive_model.proofs.plays.what_is_played_is_looked_up.Goals as goal

pub returns : goal.returns
returns c = λ stock a records held. played_is_looked_up a records held.kept
