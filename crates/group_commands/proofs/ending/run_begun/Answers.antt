use Rattle.plant_effects.proofs.Joining.{nothing_left}
use Rattle.group_commands.proofs.ending.run_begun.Goals as goal

pub returns-in_err-kills-clause-leaves : goal.returns-in_err-kills-clause-leaves
returns-in_err-kills-clause-leaves g c = λ told told_cell s p at.
    nothing_left g.P.Plant _ c.args.plant.now (λ tells survives image left. g.met.P.Plant.left c.args.plant.now image tells c.requires.fit.sound survives left)
