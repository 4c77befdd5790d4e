use Rattle.std.proofs.Common.{◌≡◌, ℕ, ◌∷◌, ◌∙◌, ap, subst}
use Rattle.std.specs.Prelude.{Err}
use Rattle.std.proofs.lemmas.Result.{err_from_is_err_and}
use Rattle.plant_core.specs.Effects.{cuts}
use Rattle.plant_effects.specs.Runs.{Done, Leaves}
use Rattle.tape_frames.specs.declared.dump_head.DumpHeadFields.{DumpHeadFields}
use Rattle.tape_writer.specs.Puts.{puts_on, begun}
use Rattle.dump_job.specs.Reels.{records_on}
use Rattle.dump_job.specs.Taping.{uses_by, uses_for, head_with, tape_effects}
use Rattle.dump_job.proofs.Joins.{failed_first, failed_then, put_then, turns_told}
use Rattle.dump_job.proofs.Uses.{taped_is}
use Rattle.dump_job.proofs.taping.tape_step.Goals as goal

pub returns-in_err-found-clause-plant : goal.returns-in_err-found-clause-plant
returns-in_err-found-clause-plant g c = λ items read.
    let p = err_from_is_err_and c.from_residual.result c.from_residual.ensures.1 in
    let e = c.in_err-found.ensures in
    let j = c.args.job.now in
    let es = tape_effects (uses_for j items) j in
    let left : Leaves g.P.Plant _ c.args.plant.now c.open_tape.new.plant = e.leaves in
    rw p.1 (failed_first g.P.Plant j.reel.slot es c.args.plant.now c.open_tape.new.plant p.0 left e.stays e.cause.failed)

pub returns-in_err-begin_on-clause-plant : goal.returns-in_err-begin_on-clause-plant
returns-in_err-begin_on-clause-plant g c = λ items read.
    let P = g.P.Plant in
    let p = err_from_is_err_and c.from_residual-in_err-begin_on.result c.from_residual-in_err-begin_on.ensures.1 in
    let first = c.in_ok-found.ensures in
    let e = c.in_err-begin_on.ensures in
    let j = c.args.job.now in
    let uses = c.in-Some.uses in
    let head : c.head_now-head.result ≡ head_with uses j.head = c.head_now-head.ensures.head j.head c.requires.spare in
    let left : Leaves P (tape_effects uses j) c.open_tape.new.plant c.begin_on.new.plant =
    subst (λ (h : DumpHeadFields). Leaves P (cuts j.reel.slot (records_on j.reel) ∷ puts_on j.reel.slot (begun j.label h)) c.open_tape.new.plant c.begin_on.new.plant) head c.begin_on.ensures.leaves in
    let right : P.tells → tape_effects uses j ≡ tape_effects (uses_for j items) j = λ tells. ap (λ (n : ℕ). tape_effects n j) (rw c.in-Some.is at (first.uses tells items (read tells)) ∙ ap (λ (h : DumpHeadFields). uses_by j.label h.uses items) c.fields.ensures.value) in
    rw p.1 (turns_told P j.reel.slot (tape_effects uses j) (tape_effects (uses_for j items) j) (Err p.0) c.args.plant.now c.begin_on.new.plant right
    (failed_then P j.reel.slot (tape_effects uses j) c.args.plant.now c.open_tape.new.plant c.begin_on.new.plant p.0 first.done first.leaves first.stays first.cause.stays left e.stays e.cause.failed))

pub returns-clause-plant : goal.returns-clause-plant
returns-clause-plant g c = λ items read.
    let P = g.P.Plant in
    let first = c.in_ok-found.ensures in
    let e = c.in_ok-begin_on.ensures in
    let j = c.args.job.now in
    let uses = c.in-Some.uses in
    let head : c.head_now-head.result ≡ head_with uses j.head = c.head_now-head.ensures.head j.head c.requires.spare in
    let left : Leaves P (tape_effects uses j) c.open_tape.new.plant c.begin_on.new.plant =
    subst (λ (h : DumpHeadFields). Leaves P (cuts j.reel.slot (records_on j.reel) ∷ puts_on j.reel.slot (begun j.label h)) c.open_tape.new.plant c.begin_on.new.plant) head c.begin_on.ensures.leaves in
    let done : Done P (tape_effects uses j) c.open_tape.new.plant c.begin_on.new.plant =
    subst (λ (h : DumpHeadFields). Done P (cuts j.reel.slot (records_on j.reel) ∷ puts_on j.reel.slot (begun j.label h)) c.open_tape.new.plant c.begin_on.new.plant) head e.done in
    let right : P.tells → tape_effects uses j ≡ tape_effects (uses_for j items) j = λ tells. ap (λ (n : ℕ). tape_effects n j) (rw c.in-Some.is at (first.uses tells items (read tells)) ∙ ap (λ (h : DumpHeadFields). uses_by j.label h.uses items) c.fields.ensures.value) in
    turns_told P j.reel.slot (tape_effects uses j) (tape_effects (uses_for j items) j) _ c.args.plant.now c.begin_on.new.plant right
    (put_then P j.reel.slot (tape_effects uses j) c.args.plant.now c.open_tape.new.plant c.begin_on.new.plant first.done first.leaves first.loaded first.log_size first.stays first.cause.stays
    done left e.loaded e.log_size e.stays e.cause.stays)

pub returns-clause-taped : goal.returns-clause-taped
returns-clause-taped g c = λ is.
    let P = g.P.Plant in
    let first = c.in_ok-found.ensures in
    let j = c.args.job.now in
    let head : c.head_now-head.result ≡ head_with c.in-Some.uses j.head = c.head_now-head.ensures.head j.head c.requires.spare in
    record {
      uses = c.in-Some.uses;
      right = λ tells items read. rw c.in-Some.is at (first.uses tells items read) ∙ ap (λ (h : DumpHeadFields). uses_by j.label h.uses items) c.fields.ensures.value;
      is = taped_is j c.in-Some.uses _ _ _ _ _ head c.head_now-head.ensures.none c.in_ok-begin_on.ensures.reel c.head_at-first.ensures c.phase_begun-job.ensures;
    }
