use Rattle.archive_model.proofs.WholeLaws.{whole_called}
use Rattle.archive_model.proofs.holding.a_record_calls_for_its_fragments.Goals as goal

pub returns : goal.returns
returns c = whole_called
