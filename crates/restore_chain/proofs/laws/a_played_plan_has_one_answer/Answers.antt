use Rattle.restore_chain.proofs.RestoreLaws.{plays_plan_once}
use Rattle.restore_chain.proofs.laws.a_played_plan_has_one_answer.Goals as goal

pub returns : goal.returns
returns c = plays_plan_once
