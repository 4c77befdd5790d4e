use Rattle.std.proofs.Common.{◌∙◌, ap}
use Rattle.std.specs.Prelude.{Err}
use Rattle.std.proofs.lemmas.Result.{err_from_is_err_and}
use Rattle.dump_job.specs.declared.fault.JobFault.{JobFault}
use Rattle.dump_job.proofs.Searching.{no_search, no_memory, choice_refused}
use Rattle.dump_job.proofs.first_tapes.next_tape.Goals as goal

pub returns-in_err-name-clause-plant : goal.returns-in_err-name-clause-plant
returns-in_err-name-clause-plant g c =
    let p = err_from_is_err_and c.from_residual.result c.from_residual.ensures.1 in
    no_memory g.P.Plant c.from_residual.result p.0 c.args.plant.now p.1 p.2 c.requires.sound (λ told survives image left. g.met.P.Plant.left c.args.plant.now image told c.requires.sound survives left)

pub returns-then-number-gt-LAST_TAPE-clause-plant : goal.returns-then-number-gt-LAST_TAPE-clause-plant
returns-then-number-gt-LAST_TAPE-clause-plant g c =
    no_search g.P.Plant _ c.args.plant.now (λ is. absurd (cc)) c.requires.sound (λ told survives image left. g.met.P.Plant.left c.args.plant.now image told c.requires.sound survives left)

pub returns-in_err-wanting-clause-plant : goal.returns-in_err-wanting-clause-plant
returns-in_err-wanting-clause-plant g c =
    let p = err_from_is_err_and c.from_residual-in_err-wanting.result c.from_residual-in_err-wanting.ensures.1 in
    no_memory g.P.Plant c.from_residual-in_err-wanting.result p.0 c.args.plant.now p.1 p.2 c.requires.sound (λ told survives image left. g.met.P.Plant.left c.args.plant.now image told c.requires.sound survives left)

pub returns-in_err-chosen-clause-plant : goal.returns-in_err-chosen-clause-plant
returns-in_err-chosen-clause-plant g c =
    let p = err_from_is_err_and c.from_residual-in_err-chosen.result c.from_residual-in_err-chosen.ensures.1 in
    let e = c.in_err-chosen.ensures in
    choice_refused g.P.Plant c.from_residual-in_err-chosen.result c.in_err-chosen.field-0.0 c.args.plant.now c.choose_tape.new.plant (p.1 ∙ ap (λ (f : JobFault). Err f) p.2) e.done e.leaves e.numbers e.stays e.cause
