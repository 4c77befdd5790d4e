use Rattle.restore_chain.proofs.OneAnswer.{plans_once}
use Rattle.restore_chain.proofs.laws.a_plan_has_one_answer.Goals as goal

pub returns : goal.returns
returns c = plans_once
