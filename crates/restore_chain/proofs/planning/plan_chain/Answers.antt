use Rattle.restore_chain.proofs.PlanSteps.{told_memory}
use Rattle.restore_chain.proofs.planning.plan_chain.Goals as goal

pub returns-in_default-clause-looks : goal.returns-in_default-clause-looks
returns-in_default-clause-looks g c = told_memory g.P.Plant c.args.plant.now c.requires (λ told survives x left. g.met.P.Plant.left c.args.plant.now x told c.requires survives left)

pub returns-in_default-clone-clause-looks : goal.returns-in_default-clone-clause-looks
returns-in_default-clone-clause-looks g c = told_memory g.P.Plant c.args.plant.now c.requires (λ told survives x left. g.met.P.Plant.left c.args.plant.now x told c.requires survives left)
