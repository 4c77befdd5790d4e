use Rattle.std.proofs.Common.{◌∙◌, ap}
use Rattle.std.specs.List.{count_by}
use Rattle.plant_core.specs.Effects.{come, putting_away}
use Rattle.plant_effects.specs.Runs.{state_of, loaded_of}
use Rattle.plant_effects.proofs.States.{alike_both}
use Rattle.rehearsal.specs.Counts.{is_block, is_mark}
use Rattle.rehearsal.proofs.RecordLaws.{loads_nothing}
use Rattle.rehearsal.proofs.tapes.count_in.Goals as goal

pub returns-clause-blocks : goal.returns-clause-blocks
returns-clause-blocks g c = λ told settled.
    let P = g.P.Plant in
    let old = state_of P c.args.plant.now in
    let slot = c.args.slot in
    let loaded = alike_both old (come (putting_away (loaded_of P c.args.plant.now) slot) old) (state_of P c.load_tape.new.plant) (loads_nothing old (loaded_of P c.args.plant.now) slot settled) (c.in_ok-load_tape.ensures.done.state told) in
    c.in_ok-records.ensures.blocks told slot c.in_ok-load_tape.ensures.loaded ∙ ap (count_by is_block) (loaded.tape slot)

pub returns-clause-marks : goal.returns-clause-marks
returns-clause-marks g c = λ told settled.
    let P = g.P.Plant in
    let old = state_of P c.args.plant.now in
    let slot = c.args.slot in
    let loaded = alike_both old (come (putting_away (loaded_of P c.args.plant.now) slot) old) (state_of P c.load_tape.new.plant) (loads_nothing old (loaded_of P c.args.plant.now) slot settled) (c.in_ok-load_tape.ensures.done.state told) in
    c.in_ok-records.ensures.marks told slot c.in_ok-load_tape.ensures.loaded ∙ ap (count_by is_mark) (loaded.tape slot)

pub returns-clause-same : goal.returns-clause-same
returns-clause-same g c = λ told settled.
    let P = g.P.Plant in
    let old = state_of P c.args.plant.now in
    let slot = c.args.slot in
    let loaded = alike_both old (come (putting_away (loaded_of P c.args.plant.now) slot) old) (state_of P c.load_tape.new.plant) (loads_nothing old (loaded_of P c.args.plant.now) slot settled) (c.in_ok-load_tape.ensures.done.state told) in
    alike_both old (state_of P c.load_tape.new.plant) (state_of P c.count_loaded.new.plant) loaded (c.in_ok-records.ensures.done.state told)
