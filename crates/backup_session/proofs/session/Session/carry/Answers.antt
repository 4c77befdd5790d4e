use Rattle.plant_effects.proofs.Joining.{nothing_left}
use Rattle.backup_session.proofs.session.Session.carry.Goals as goal

pub returns-in-Refuses-clause-leaves : goal.returns-in-Refuses-clause-leaves
returns-in-Refuses-clause-leaves g c = λ told w fits. nothing_left g.P.Plant _ c.args.plant.now (λ told survives image left. g.met.P.Plant.left c.args.plant.now image told c.requires survives left)

pub returns-in-Shows-clause-leaves : goal.returns-in-Shows-clause-leaves
returns-in-Shows-clause-leaves g c = λ told w fits. nothing_left g.P.Plant _ c.args.plant.now (λ told survives image left. g.met.P.Plant.left c.args.plant.now image told c.requires survives left)
