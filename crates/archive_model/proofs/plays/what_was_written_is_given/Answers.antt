use Rattle.archive_model.proofs.GivenLaws.{written_given}
use Rattle.archive_model.proofs.plays.what_was_written_is_given.Goals as goal

pub returns : goal.returns
returns c = written_given
