use Rattle.restore_chain.proofs.PlanLaws.{leads}
use Rattle.restore_chain.proofs.laws.a_plan_leads_to_the_contents.Goals as goal

pub returns : goal.returns
returns c = leads
