use Rattle.archive_model.proofs.LookLaws.{looks_up, looks_up_once}
use Rattle.archive_model.proofs.plays.a_look_up_has_one_outcome.Goals as goal

pub returns-clause-some : goal.returns-clause-some
returns-clause-some c = looks_up

pub returns-clause-once : goal.returns-clause-once
returns-clause-once c = looks_up_once
