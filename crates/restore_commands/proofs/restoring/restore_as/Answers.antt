use Rattle.std.proofs.Common.{inl, refl, Ok, Err}
use Rattle.restore_commands.specs.Answers.{volume_answer}
use Rattle.restore_commands.proofs.PutLaws.{stayed_on}
use Rattle.restore_commands.proofs.FoundLaws.{plan_refused, refused_answer, archive_later, plans_there, plans_of}
use Rattle.restore_commands.proofs.Idle.{cell_idle, looked, refused_look, looked_on}
use Rattle.restore_commands.proofs.restoring.restore_as.Goals as goal

pub returns-in-Ok-clause-answer : goal.returns-in-Ok-clause-answer
returns-in-Ok-clause-answer g c = λ told seen a is.
    let P = g.P.Plant in
    let listed = c.args.budb.now.database.listed in
    let e = c.in-Ok.ensures in
    c.restore_planned.ensures.answer told seen a (archive_later P listed a c.args.plant.now c.plan.new.plant (e.done (λ bad. absurd (cc))) e.stays told is)
    (plans_of a.slots listed c.args.wanted.now.name c.args.wanted.now.before c.args.wanted.now (Ok c.in-Ok.plan) refl refl (e.planned told a.slots is.slots))

pub returns-in-Ok-clause-left : goal.returns-in-Ok-clause-left
returns-in-Ok-clause-left g c = λ told seen a is.
    let P = g.P.Plant in
    let listed = c.args.budb.now.database.listed in
    let e = c.in-Ok.ensures in
    c.restore_planned.ensures.left told seen a (archive_later P listed a c.args.plant.now c.plan.new.plant (e.done (λ bad. absurd (cc))) e.stays told is)
    (plans_of a.slots listed c.args.wanted.now.name c.args.wanted.now.before c.args.wanted.now (Ok c.in-Ok.plan) refl refl (e.planned told a.slots is.slots))

pub returns-in-Ok-clause-looks : goal.returns-in-Ok-clause-looks
returns-in-Ok-clause-looks g c =
    let P = g.P.Plant in
    let old = c.args.plant.now in
    let mid = c.plan.new.plant in
    let e = c.in-Ok.ensures in
    looked_on P old mid c.restore_planned.new.plant c.in-Ok.plan c.restore_planned.result (looked P old mid (Ok c.in-Ok.plan) e.done e.leaves e.stays e.cause) c.restore_planned.ensures.looks

pub returns-in-Err-clause-answer : goal.returns-in-Err-clause-answer
returns-in-Err-clause-answer g c = λ told seen a is.
    let P = g.P.Plant in
    let listed = c.args.budb.now.database.listed in
    let old = g.C.Cell.list c.args.cell.now in
    let wanted = c.args.wanted.now in
    let target = c.args.target.now in
    let fault = c.in-Err.fault in
    let e = c.in-Err.ensures in
    let plans = plans_there P listed a c.args.plant.now is wanted.name wanted.before (Err fault) (plans_of a.slots listed c.args.wanted.now.name c.args.wanted.now.before wanted (Err fault) refl refl (e.planned told a.slots is.slots)) in
    refused_answer a old old c.args.manner.now wanted target c.requires.target c.refuse.result fault c.args.wanted.now.name refl c.refuse.ensures.failed c.refuse.ensures.memory c.refuse.ensures.text
    (λ went kept. plan_refused a wanted.name wanted.before target fault e.only went kept plans) refl

pub returns-in-Err-clause-left : goal.returns-in-Err-clause-left
returns-in-Err-clause-left g c = λ told seen a is. stayed_on (g.C.Cell.list c.args.cell.now) (volume_answer a (g.C.Cell.list c.args.cell.now) c.args.manner.now c.args.wanted.now).cells (g.C.Cell.list c.args.cell.now) refl

pub returns-in-Err-clause-may : goal.returns-in-Err-clause-may
returns-in-Err-clause-may g c = λ seen. inl refl

pub returns-in-Err-clause-looks : goal.returns-in-Err-clause-looks
returns-in-Err-clause-looks g c =
    let P = g.P.Plant in
    let old = c.args.plant.now in
    let new = c.plan.new.plant in
    let e = c.in-Err.ensures in
    refused_look P old new c.in-Err.fault c.refuse.result c.refuse.ensures.failed c.refuse.ensures.only_failed (looked P old new (Err c.in-Err.fault) e.done e.leaves e.stays e.cause)

pub returns-in-Err-clause-cause : goal.returns-in-Err-clause-cause
returns-in-Err-clause-cause g c = cell_idle (g.C.Cell.faults c.args.cell.now) c.refuse.result c.refuse.ensures.never
