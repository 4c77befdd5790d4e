use Rattle.restore_chain.proofs.PlanLaws.{refused}
use Rattle.restore_chain.proofs.laws.a_refused_plan_is_a_refused_look_up.Goals as goal

pub returns : goal.returns
returns c = refused
