use Rattle.std.proofs.Common.{ℕ, ◌∙◌, ap, sym, subst}
use Rattle.dump_job.specs.declared.answer.StepAnswer.{StepAnswer}
use Rattle.dump_job.specs.declared.fields.Phase.TheVariants as phase
use Rattle.tape_frames.specs.declared.dump_head.DumpHeadFields.{DumpHeadFields}
use Rattle.dump_job.specs.Events.{dump_end_event}
use Rattle.dump_job.specs.Stepping.{Does, Steps, done_answer}
use Rattle.dump_job.proofs.Turns.{on_of, last_due, few_frags, few_all_parts, all_named, few_done, does_dump_end, steps_dump_end}
use Rattle.dump_job.proofs.stepping.dump_end_turn.Goals as goal

pub dump_end_step-requires : goal.dump_end_step-requires
dump_end_step-requires g c =
    let j = c.args.job.now in
    let job = c.requires.fit.job in
    record {
      fit = on_of g.P.Plant phase.DumpEnd j c.args.plant.now c.requires.at (λ is. cc) c.requires.fit;
      marks = job.marks;
      room = last_due j c.requires.at job;
      frags = few_frags j j.hand job.hand job.few_parts;
      parts = few_all_parts j job.few_parts;
      named = all_named j j.filled job.named c.fields.ensures.form.permanent;
      volumes = few_done j job;
      nothing = c.requires.nothing;
    }

pub returns-clause-does : goal.returns-clause-does
returns-clause-does g c = λ around near.
    let P = g.P.Plant in
    let j = c.args.job.now in
    let old = c.args.plant.now in
    let new = c.dump_end_step.new.plant in
    let e = c.dump_end_step.ensures in
    let id = ap (λ (h : DumpHeadFields). h.id) c.fields.ensures.value in
    subst (λ (a : StepAnswer). Does P (dump_end_event around.log_size j) a c.args.budb.now c.dump_end_step.new.budb old new c.dump_end_step.new.job) (sym (c.done_answer.ensures.is ∙ ap (λ (n : ℕ). done_answer n c.dump_end_step.result) id))
    (does_dump_end P c.dump_end_step.result around c.args.budb.now c.dump_end_step.new.budb old new j c.dump_end_step.new.job near e.moved e.plant e.database)

pub returns-clause-steps : goal.returns-clause-steps
returns-clause-steps g c =
    let P = g.P.Plant in
    let j = c.args.job.now in
    let old = c.args.plant.now in
    let new = c.dump_end_step.new.plant in
    let e = c.dump_end_step.ensures in
    subst (λ (a : StepAnswer). Steps P a c.args.budb.now c.dump_end_step.new.budb old new j c.dump_end_step.new.job) (sym c.done_answer.ensures.is)
    (steps_dump_end P _ c.dump_end_step.result c.args.budb.now c.dump_end_step.new.budb old new j c.dump_end_step.new.job c.requires.fit c.requires.nothing c.requires.at
    e.moved e.same e.memory e.plant e.database e.fit)
