use Rattle.std.proofs.Common.{[], ◌∷◌}
use Rattle.plant_core.specs.Effects.{puts}
use Rattle.plant_core.specs.Records.{block_with}
use Rattle.plant_effects.specs.Runs.{state_of}
use Rattle.plant_effects.proofs.States.{grows_same, told_kept}
use Rattle.plant_effects.proofs.TapeCalls.{puts_step}
use Rattle.plant_effects.proofs.tape.put_block.Goals as goal

pub returns-in_err-tape_put-clause-leaves : goal.returns-in_err-tape_put-clause-leaves
returns-in_err-tape_put-clause-leaves g c =
    let P = g.P.Plant in
    let laws = g.met.P.Plant in
    let old = c.args.plant.now in
    let new = c.tape_put.new.self in
    λ k at. record {
      crash = puts_step P (block_with c.args.block.now) k old new (λ told survives image left. laws.left old image told c.requires.sound survives left) (λ told survives. c.tape_put.ensures.crash told survives k at);
      told = λ told. told_kept (puts k (block_with c.args.block.now) ∷ []) (state_of P old) (state_of P new).told (c.tape_put.ensures.stays.output told);
      grows = λ told. grows_same (state_of P old).told (state_of P new).told (c.tape_put.ensures.stays.output told);
    }

pub returns-clause-leaves : goal.returns-clause-leaves
returns-clause-leaves g c =
    let P = g.P.Plant in
    let laws = g.met.P.Plant in
    let old = c.args.plant.now in
    let new = c.tape_put.new.self in
    λ k at. record {
      crash = puts_step P (block_with c.args.block.now) k old new (λ told survives image left. laws.left old image told c.requires.sound survives left) (λ told survives. c.tape_put.ensures.crash told survives k at);
      told = λ told. told_kept (puts k (block_with c.args.block.now) ∷ []) (state_of P old) (state_of P new).told (c.tape_put.ensures.stays.output told);
      grows = λ told. grows_same (state_of P old).told (state_of P new).told (c.tape_put.ensures.stays.output told);
    }
