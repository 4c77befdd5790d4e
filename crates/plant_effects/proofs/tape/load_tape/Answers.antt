use Rattle.plant_core.specs.Effects.{putting_away}
use Rattle.plant_effects.specs.Runs.{state_of, loaded_of}
use Rattle.plant_effects.proofs.States.{grows_same, told_kept}
use Rattle.plant_effects.proofs.TapeCalls.{loads_step}
use Rattle.plant_effects.proofs.tape.load_tape.Goals as goal

pub returns-in_err-load-clause-leaves : goal.returns-in_err-load-clause-leaves
returns-in_err-load-clause-leaves g c =
    let P = g.P.Plant in
    let laws = g.met.P.Plant in
    let old = c.args.plant.now in
    let new = c.load.new.self in
    record {
      crash = loads_step P (loaded_of P old) c.args.slot (putting_away (loaded_of P old) c.args.slot) old new (λ told survives image left. laws.left old image told c.requires.sound survives left) c.load.ensures.crash;
      told = λ told. told_kept (putting_away (loaded_of P old) c.args.slot) (state_of P old) (state_of P new).told (c.load.ensures.stays.output told);
      grows = λ told. grows_same (state_of P old).told (state_of P new).told (c.load.ensures.stays.output told);
    }

pub returns-clause-leaves : goal.returns-clause-leaves
returns-clause-leaves g c =
    let P = g.P.Plant in
    let laws = g.met.P.Plant in
    let old = c.args.plant.now in
    let new = c.load.new.self in
    record {
      crash = loads_step P (loaded_of P old) c.args.slot (putting_away (loaded_of P old) c.args.slot) old new (λ told survives image left. laws.left old image told c.requires.sound survives left) c.load.ensures.crash;
      told = λ told. told_kept (putting_away (loaded_of P old) c.args.slot) (state_of P old) (state_of P new).told (c.load.ensures.stays.output told);
      grows = λ told. grows_same (state_of P old).told (state_of P new).told (c.load.ensures.stays.output told);
    }
