use Rattle.archive_model.proofs.PutLaws.{begun_before}
use Rattle.archive_model.proofs.steps.a_put_begins_its_head_alone.Goals as goal

pub returns : goal.returns
returns c = begun_before
