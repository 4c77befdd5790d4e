use Rattle.std.proofs.Common.{[], ◌∷◌}
use Rattle.plant_core.specs.Effects.{commits}
use Rattle.plant_effects.proofs.Joining.{nothing_left}
use Rattle.budb_changes.specs.Bytes.{encoded}
use Rattle.budb.proofs.database.Budb.commit.Goals as goal

pub returns-in-Err-clause-leaves : goal.returns-in-Err-clause-leaves
returns-in-Err-clause-leaves g c =
    let old = c.args.plant.now in
    nothing_left g.P.Plant (commits (encoded c.args.changes.now) ∷ []) old (λ told survives image left. g.met.P.Plant.left old image told c.requires.sound survives left)
