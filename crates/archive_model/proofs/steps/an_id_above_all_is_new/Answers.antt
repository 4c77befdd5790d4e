use Rattle.archive_model.proofs.AfterLaws.{above_all}
use Rattle.archive_model.proofs.steps.an_id_above_all_is_new.Goals as goal

pub returns : goal.returns
returns c = above_all
