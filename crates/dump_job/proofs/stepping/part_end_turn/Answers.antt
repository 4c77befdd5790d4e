use Rattle.std.proofs.Common.{sym, subst}
use Rattle.dump_job.specs.declared.answer.StepAnswer.{StepAnswer}
use Rattle.dump_job.specs.Events.{part_end_event}
use Rattle.dump_job.specs.Stepping.{Does, Steps}
use Rattle.dump_job.proofs.Turns.{part_needs, on_head, does_part_end, steps_part_end}
use Rattle.dump_job.proofs.stepping.part_end_turn.Goals as goal

pub part_end_step-requires : goal.part_end_step-requires
part_end_step-requires g c =
    let j = c.args.job.now in
    let needs = part_needs j c.requires.fit.job in
    record { fit = on_head g.P.Plant j c.args.plant.now c.requires.taking c.requires.fit; marks = c.requires.fit.job.marks; room = c.requires.at.room; part = needs.0; fragment = needs.1; nothing = c.requires.nothing }

pub returns-clause-does : goal.returns-clause-does
returns-clause-does g c = λ around near.
    let P = g.P.Plant in
    let j = c.args.job.now in
    let old = c.args.plant.now in
    let new = c.part_end_step.new.plant in
    let e = c.part_end_step.ensures in
    subst (λ (a : StepAnswer). Does P (part_end_event c.args.cut around j) a c.args.budb.now c.part_end_step.new.budb old new c.part_end_step.new.job) (sym c.pass_answer.ensures.is)
    (does_part_end P c.args.cut c.part_end_step.result around c.args.budb.now c.part_end_step.new.budb old new j c.part_end_step.new.job near e.ended (e.leaves near.tells around.slots near.slots))

pub returns-clause-steps : goal.returns-clause-steps
returns-clause-steps g c =
    let P = g.P.Plant in
    let j = c.args.job.now in
    let old = c.args.plant.now in
    let new = c.part_end_step.new.plant in
    let e = c.part_end_step.ensures in
    subst (λ (a : StepAnswer). Steps P a c.args.budb.now c.part_end_step.new.budb old new j c.part_end_step.new.job) (sym c.pass_answer.ensures.is)
    (steps_part_end P c.args.cut c.part_end_step.result c.args.budb.now c.part_end_step.new.budb old new j c.part_end_step.new.job c.requires.fit c.requires.nothing c.requires.at
    c.fields-head.ensures.form.permanent c.requires.taking e.ended e.ready e.fit)
