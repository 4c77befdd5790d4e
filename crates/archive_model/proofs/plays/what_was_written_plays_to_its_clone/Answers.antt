use Rattle.archive_model.proofs.KeepLaws.{written_plays}
use Rattle.archive_model.proofs.plays.what_was_written_plays_to_its_clone.Goals as goal

pub returns : goal.returns
returns c = written_plays
