use Rattle.std.proofs.Common.{◌∙◌, ap}
use Rattle.tape_choice.specs.Append.{no_tape}
use Rattle.tape_choice.proofs.LastLaws.{set_told}
use Rattle.tape_scan.proofs.Looking.{loads_none, leaves_loads}
use Rattle.tape_choice.proofs.Loadings.{unless_any}
use Rattle.tape_choice.proofs.appending.find_append.Goals as goal

pub returns-in_default-clause-loads : goal.returns-in_default-clause-loads
returns-in_default-clause-loads g c =
    let old = c.args.plant.now in
    loads_none g.P.Plant old c.requires (λ told survives image left. g.met.P.Plant.left old image told c.requires survives left)

pub returns-in_default-clause-leaves : goal.returns-in_default-clause-leaves
returns-in_default-clause-leaves g c = leaves_loads g.P.Plant c.args.plant.now c.args.plant.now (returns-in_default-clause-loads g c)

pub returns-in_default-last_part-clause-loads : goal.returns-in_default-last_part-clause-loads
returns-in_default-last_part-clause-loads g c =
    let old = c.args.plant.now in
    loads_none g.P.Plant old c.requires (λ told survives image left. g.met.P.Plant.left old image told c.requires survives left)

pub returns-in_default-last_part-clause-leaves : goal.returns-in_default-last_part-clause-leaves
returns-in_default-last_part-clause-leaves g c = leaves_loads g.P.Plant c.args.plant.now c.args.plant.now (returns-in_default-last_part-clause-loads g c)

pub returns-in_err-no_tape-clause-leaves : goal.returns-in_err-no_tape-clause-leaves
returns-in_err-no_tape-clause-leaves g c =
    let old = c.args.plant.now in
    leaves_loads g.P.Plant old old (loads_none g.P.Plant old c.requires (λ told survives image left. g.met.P.Plant.left old image told c.requires survives left))

pub returns-in_err-no_tape-clause-loads : goal.returns-in_err-no_tape-clause-loads
returns-in_err-no_tape-clause-loads g c =
    let old = c.args.plant.now in
    unless_any c.from_residual.result (loads_none g.P.Plant old c.requires (λ told survives image left. g.met.P.Plant.left old image told c.requires survives left))

pub returns-in_default-last_part-clause-no_set : goal.returns-in_default-last_part-clause-no_set
returns-in_default-last_part-clause-no_set g c =
    set_told c.args.listed.now c.args.set.now c.in-Some.initial c.in_ok-no_tape.field-0 c.in-Some.ensures (c.in_ok-no_tape.ensures ∙ ap no_tape c.latest_of.ensures)
