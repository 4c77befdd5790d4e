use Rattle.plant_effects.proofs.Joining.{nothing_left}
use Rattle.group_commands.proofs.ending.end_group.Goals as goal

pub returns-in_err-entries-clause-leaves : goal.returns-in_err-entries-clause-leaves
returns-in_err-entries-clause-leaves g c = λ told told_cell s finds.
    nothing_left g.P.Plant _ c.args.plant.now (λ tells survives image left. g.met.P.Plant.left c.args.plant.now image tells c.requires.sound survives left)
