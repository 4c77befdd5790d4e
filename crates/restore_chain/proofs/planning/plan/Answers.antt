use Rattle.tape_scan.proofs.Looking.{loads_none, leaves_loads}
use Rattle.restore_chain.proofs.planning.plan.Goals as goal

pub returns-in-Ok-None-clause-done : goal.returns-in-Ok-None-clause-done
returns-in-Ok-None-clause-done g c = λ _. loads_none g.P.Plant c.args.plant.now c.requires (λ told survives x left. g.met.P.Plant.left c.args.plant.now x told c.requires survives left)

pub returns-in-Ok-None-clause-leaves : goal.returns-in-Ok-None-clause-leaves
returns-in-Ok-None-clause-leaves g c =
    let s = c.args.plant.now in
    leaves_loads g.P.Plant s s (loads_none g.P.Plant s c.requires (λ told survives x left. g.met.P.Plant.left s x told c.requires survives left))

pub returns-in-Err-clause-done : goal.returns-in-Err-clause-done
returns-in-Err-clause-done g c = λ _. loads_none g.P.Plant c.args.plant.now c.requires (λ told survives x left. g.met.P.Plant.left c.args.plant.now x told c.requires survives left)

pub returns-in-Err-clause-leaves : goal.returns-in-Err-clause-leaves
returns-in-Err-clause-leaves g c =
    let s = c.args.plant.now in
    leaves_loads g.P.Plant s s (loads_none g.P.Plant s c.requires (λ told survives x left. g.met.P.Plant.left s x told c.requires survives left))
