use Rattle.std.proofs.Common.{inl, refl, Ok, Err}
use Rattle.std.proofs.lemmas.Result.{IfOk-weaker}
use Rattle.restore_target.specs.Targets.{after_restore}
use Rattle.restore_commands.specs.declared.told.Told.{Told}
use Rattle.restore_commands.specs.Answers.{put_answer, volume_answer}
use Rattle.restore_commands.specs.Steps.{planned_lines, IsToldSo}
use Rattle.restore_commands.proofs.PutLaws.{stayed_on}
use Rattle.restore_commands.proofs.FoundLaws.{play_refused, refused_answer, put_told, put_left, plans_there, played_from, volume_from}
use Rattle.restore_commands.proofs.Idle.{cell_idle, looked, refused_look, looked_well}
use Rattle.restore_commands.proofs.restoring.restore_planned.Goals as goal

pub returns-in-Ok-clause-answer : goal.returns-in-Ok-clause-answer
returns-in-Ok-clause-answer g c = λ told seen a is plans.
    let P = g.P.Plant in
    let C = g.C.Cell in
    let listed = c.args.budb.now.database.listed in
    let plant = c.args.plant.now in
    let old = C.list c.args.cell.now in
    let new = C.list c.place_planned.new.cell in
    let manner = c.args.manner.now in
    let wanted = c.args.wanted.now in
    let target = c.args.target.now in
    let plan = c.args.plan.now in
    let volume = c.in-Ok.volume in
    let from = played_from P listed a plant is wanted.name wanted.before plan (Ok volume) plans (λ of. c.in-Ok.ensures.played told a.slots is.slots of) in
    IfOk-weaker c.place_planned.result
    (λ (t : Told). IsToldSo (put_answer manner.is_trial target (planned_lines manner.is_trial target plan) (after_restore old wanted.server wanted.partition target manner.time volume)) t old new)
    (λ (t : Told). IsToldSo (volume_answer a old manner wanted) t old new)
    (λ t so. put_told a old new manner wanted target c.requires.target plan volume t (plans_there P listed a plant is wanted.name wanted.before (Ok plan) plans) (volume_from P listed a wanted.name wanted.before volume from) so)
    (c.place_planned.ensures.answer seen)

pub returns-in-Ok-clause-left : goal.returns-in-Ok-clause-left
returns-in-Ok-clause-left g c = λ told seen a is plans.
    let P = g.P.Plant in
    let C = g.C.Cell in
    let listed = c.args.budb.now.database.listed in
    let plant = c.args.plant.now in
    let wanted = c.args.wanted.now in
    let plan = c.args.plan.now in
    let volume = c.in-Ok.volume in
    let from = played_from P listed a plant is wanted.name wanted.before plan (Ok volume) plans (λ of. c.in-Ok.ensures.played told a.slots is.slots of) in
    put_left a (C.list c.args.cell.now) (C.list c.place_planned.new.cell) c.args.manner.now wanted c.args.target.now c.requires.target plan volume
    (plans_there P listed a plant is wanted.name wanted.before (Ok plan) plans) (volume_from P listed a wanted.name wanted.before volume from) (c.place_planned.ensures.left seen)

pub returns-in-Ok-clause-looks : goal.returns-in-Ok-clause-looks
returns-in-Ok-clause-looks g c =
    let P = g.P.Plant in
    let old = c.args.plant.now in
    let new = c.play.new.plant in
    let e = c.in-Ok.ensures in
    looked_well P old new c.in-Ok.volume c.place_planned.result c.place_planned.ensures.never (looked P old new (Ok c.in-Ok.volume) e.done e.leaves e.stays e.cause)

pub returns-in-Err-clause-answer : goal.returns-in-Err-clause-answer
returns-in-Err-clause-answer g c = λ told seen a is plans.
    let P = g.P.Plant in
    let C = g.C.Cell in
    let listed = c.args.budb.now.database.listed in
    let plant = c.args.plant.now in
    let old = C.list c.args.cell.now in
    let wanted = c.args.wanted.now in
    let target = c.args.target.now in
    let plan = c.args.plan.now in
    let fault = c.in-Err.fault in
    let from = played_from P listed a plant is wanted.name wanted.before plan (Err fault) plans (λ of. c.in-Err.ensures.played told a.slots is.slots of) in
    refused_answer a old old c.args.manner.now wanted target c.requires.target c.refuse.result fault c.args.wanted.now.name refl c.refuse.ensures.failed c.refuse.ensures.memory c.refuse.ensures.text
    (λ went kept. play_refused a wanted.name wanted.before target fault went kept from) refl

pub returns-in-Err-clause-left : goal.returns-in-Err-clause-left
returns-in-Err-clause-left g c = λ told seen a is plans. stayed_on (g.C.Cell.list c.args.cell.now) (volume_answer a (g.C.Cell.list c.args.cell.now) c.args.manner.now c.args.wanted.now).cells (g.C.Cell.list c.args.cell.now) refl

pub returns-in-Err-clause-may : goal.returns-in-Err-clause-may
returns-in-Err-clause-may g c = λ seen. inl refl

pub returns-in-Err-clause-looks : goal.returns-in-Err-clause-looks
returns-in-Err-clause-looks g c =
    let P = g.P.Plant in
    let old = c.args.plant.now in
    let new = c.play.new.plant in
    let e = c.in-Err.ensures in
    refused_look P old new c.in-Err.fault c.refuse.result c.refuse.ensures.failed c.refuse.ensures.only_failed (looked P old new (Err c.in-Err.fault) e.done e.leaves e.stays e.cause)

pub returns-in-Err-clause-cause : goal.returns-in-Err-clause-cause
returns-in-Err-clause-cause g c = cell_idle (g.C.Cell.faults c.args.cell.now) c.refuse.result c.refuse.ensures.never
