use Rattle.std.proofs.Common.{◌≡◌, true, ap, sym, subst}
use Rattle.std.specs.Prelude.{Ok}
use Rattle.dump_job.specs.declared.answer.StepAnswer.{StepAnswer}
use Rattle.dump_job.specs.declared.fields.Hand.{Hand}
use Rattle.dump_job.specs.declared.fields.JobFields.{JobFields}
use Rattle.dump_job.specs.declared.fields.Phase.TheVariants as phase
use Rattle.dump_job.specs.Volumes.{head_items, headed}
use Rattle.dump_job.specs.Events.{putting, hand_event}
use Rattle.dump_job.specs.Stepping.{Does, Steps}
use Rattle.dump_job.proofs.Turns.{hand_there, on_of, head_due, does_hand, headed_fits, headed_goes, headed_falls}
use Rattle.dump_job.proofs.Fits.{steps_put}
use Rattle.dump_job.proofs.stepping.head_put_turn.Goals as goal

pub head_step-requires : goal.head_step-requires
head_step-requires g c =
    let on = on_of g.P.Plant phase.Head c.args.job.now c.args.plant.now c.requires.at (λ is. cc) c.requires.fit in
    let at = head_due c.args.job.now c.requires.at c.requires.fit.job in
    record { fit = on; marks = c.requires.fit.job.marks; room = c.requires.room; hand = at.hand }

pub returns-clause-does : goal.returns-clause-does
returns-clause-does g c = λ around budb near.
    let P = g.P.Plant in
    let j = c.args.job.now in
    let old = c.args.plant.now in
    let new = c.head_step.new.plant in
    let k = c.head_step.new.job in
    let e = c.head_step.ensures in
    let at = head_due j c.requires.at c.requires.fit.job in
    subst (λ (a : StepAnswer). Does P (hand_event (λ (h : Hand). putting (head_items h) j (headed h j)) j.hand j) a budb budb old new k) (sym c.put_answer.ensures.is)
    (does_hand P c.head_step.result head_items (λ (h : Hand). headed h j) budb old new j k at.hand near.tells e.moved e.plant)

pub returns-clause-steps : goal.returns-clause-steps
returns-clause-steps g c = λ budb nothing.
    let P = g.P.Plant in
    let j = c.args.job.now in
    let old = c.args.plant.now in
    let new = c.head_step.new.plant in
    let k = c.head_step.new.job in
    let e = c.head_step.ensures in
    let at = head_due j c.requires.at c.requires.fit.job in
    let one = hand_there j.hand at.hand in
    let t = e.plant one.0 one.1 in
    let is = λ (made : c.head_step.result ≡ Ok true). e.moved one.0 one.1 made in
    subst (λ (a : StepAnswer). Steps P a budb budb old new j k) (sym c.put_answer.ensures.is)
    (steps_put P j.reel.slot c.head_step.result budb old new j k c.requires.fit nothing t.told t.lost t.log_size t.stays t.cause
    (λ made. headed_fits P one.0 j k new c.requires.at one.1 c.requires.fit.job (is made) (e.room made) (e.fit made))
    (λ made. ap (λ (x : JobFields). x.places) (is made)) (λ made. headed_goes one.0 j k (is made))
    (λ made. headed_falls one.0 j k c.requires.at one.1 c.requires.fit.job (is made)) e.same)
