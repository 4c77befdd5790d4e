use Rattle.std.proofs.Common.{[], ◌∷◌}
use Rattle.plant_core.specs.Effects.{puts, settles}
use Rattle.plant_core.specs.Records.{mark}
use Rattle.plant_effects.proofs.Joining.{leaves_more}
use Rattle.plant_effects.specs.Runs.{state_of}
use Rattle.plant_effects.proofs.States.{grows_same, told_kept}
use Rattle.plant_effects.proofs.TapeCalls.{puts_step}
use Rattle.plant_effects.proofs.tape.put_mark.Goals as goal

pub returns-in_err-tape_mark-clause-leaves : goal.returns-in_err-tape_mark-clause-leaves
returns-in_err-tape_mark-clause-leaves g c =
    let P = g.P.Plant in
    let laws = g.met.P.Plant in
    let old = c.args.plant.now in
    let new = c.tape_mark.new.self in
    λ k at. leaves_more P (puts k mark ∷ []) (settles k ∷ []) old new (record {
      crash = puts_step P mark k old new (λ told survives image left. laws.left old image told c.requires.sound survives left) (λ told survives. c.tape_mark.ensures.crash told survives k at);
      told = λ told. told_kept (puts k mark ∷ []) (state_of P old) (state_of P new).told (c.tape_mark.ensures.stays.output told);
      grows = λ told. grows_same (state_of P old).told (state_of P new).told (c.tape_mark.ensures.stays.output told);
    })

pub returns-clause-leaves : goal.returns-clause-leaves
returns-clause-leaves g c =
    let P = g.P.Plant in
    let laws = g.met.P.Plant in
    let old = c.args.plant.now in
    let new = c.tape_mark.new.self in
    λ k at. leaves_more P (puts k mark ∷ []) (settles k ∷ []) old new (record {
      crash = puts_step P mark k old new (λ told survives image left. laws.left old image told c.requires.sound survives left) (λ told survives. c.tape_mark.ensures.crash told survives k at);
      told = λ told. told_kept (puts k mark ∷ []) (state_of P old) (state_of P new).told (c.tape_mark.ensures.stays.output told);
      grows = λ told. grows_same (state_of P old).told (state_of P new).told (c.tape_mark.ensures.stays.output told);
    })
