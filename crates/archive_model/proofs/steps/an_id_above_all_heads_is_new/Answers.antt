use Rattle.archive_model.proofs.GrowLaws.{ids_below, none_of_id}
use Rattle.archive_model.proofs.steps.an_id_above_all_heads_is_new.Goals as goal

pub returns-clause-above : goal.returns-clause-above
returns-clause-above c = ids_below

pub returns-clause-none : goal.returns-clause-none
returns-clause-none c = none_of_id
