use Rattle.restore_chain.proofs.RestoreLaws.{planned}
use Rattle.restore_chain.proofs.laws.a_plan_may_be_played.Goals as goal

pub returns : goal.returns
returns c = planned
