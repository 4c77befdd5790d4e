use Rattle.std.proofs.Common.{ap, sym, subst}
use Rattle.dump_job.specs.declared.answer.StepAnswer.{StepAnswer}
use Rattle.dump_job.specs.declared.fields.JobFields.{JobFields}
use Rattle.dump_job.specs.Taping.{uses_for}
use Rattle.dump_job.specs.Events.{items_at, tape_event}
use Rattle.dump_job.specs.Stepping.{Does, Steps}
use Rattle.dump_job.proofs.Turns.{ready_of, does_tape, taped_fits, taped_goes, taped_falls}
use Rattle.dump_job.proofs.Fits.{steps_put}
use Rattle.dump_job.proofs.stepping.tape_turn.Goals as goal

pub tape_step-requires : goal.tape_step-requires
tape_step-requires g c =
    let r = ready_of g.P.Plant c.args.job.now c.args.plant.now c.requires.at c.requires.fit in
    record { fit = r.fit; marks = r.marks; few = r.few; room = r.room; spare = r.spare; uses = r.uses }

pub returns-clause-does : goal.returns-clause-does
returns-clause-does g c = λ around budb near.
    let P = g.P.Plant in
    let j = c.args.job.now in
    let old = c.args.plant.now in
    let new = c.tape_step.new.plant in
    let k = c.tape_step.new.job in
    let r = ready_of P j old c.requires.at c.requires.fit in
    let within = g.met.P.Plant.here_below old j.reel.slot r.fit.sound r.fit.here in
    subst (λ (a : StepAnswer). Does P (tape_event (uses_for j (items_at around.slots j.reel.slot)) j) a budb budb old new k) (sym c.put_answer.ensures.is)
    (does_tape P c.tape_step.result around budb old new j k within near c.tape_step.ensures.taped c.tape_step.ensures.plant)

pub returns-clause-steps : goal.returns-clause-steps
returns-clause-steps g c = λ budb nothing.
    let P = g.P.Plant in
    let j = c.args.job.now in
    let old = c.args.plant.now in
    let new = c.tape_step.new.plant in
    let k = c.tape_step.new.job in
    let e = c.tape_step.ensures in
    subst (λ (a : StepAnswer). Steps P a budb budb old new j k) (sym c.put_answer.ensures.is)
    (steps_put P j.reel.slot c.tape_step.result budb old new j k c.requires.fit nothing e.told e.lost e.log_size e.stays e.cause
    (λ is. taped_fits P (e.taped is).uses j k new c.requires.at c.requires.fit.job (e.taped is).is (e.room is) (e.fit is))
    (λ is. ap (λ (x : JobFields). x.places) (e.taped is).is) (λ is. taped_goes (e.taped is).uses j k (e.taped is).is)
    (λ is. taped_falls (e.taped is).uses j k c.requires.at (e.taped is).is) e.same)
