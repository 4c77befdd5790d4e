use Rattle.archive_model.proofs.RecordedLaws.{recorded_as_dumped}
use Rattle.archive_model.proofs.holding.what_was_dumped_is_recorded.Goals as goal

pub returns : goal.returns
returns c = recorded_as_dumped
