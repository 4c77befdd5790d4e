use Rattle.std.proofs.Common.{◌≡◌, List, length, rules, sym, ◌∙◌, subst}
use Rattle.std.specs.Prelude.{OnOk}
use Rattle.std.proofs.lemmas.Result.{IfOk-weaker}
use Rattle.restore_chain.specs.declared.fault.LookFault.TheVariants.{Failed}
use Rattle.restore_chain.proofs.LoadLaws.{looks_err}
use Rattle.tape_scan.proofs.Looking.{looks_well}
use Rattle.mount_plan.specs.declared.course.Course.{Course}
use Rattle.mount_plan.specs.Courses.{AreCourses, AreOutcomes}
use Rattle.mount_plan.specs.Outcomes.{AnswersNames}
use Rattle.mount_plan.proofs.CourseLaws.{answers_all, courses_count, all_new}
use Rattle.mount_plan.proofs.playing.play_courses.Goals as goal

pub returns-in-Err-clause-looks : goal.returns-in-Err-clause-looks
returns-in-Err-clause-looks g c = looks_err g.P.Plant Failed c.in-Err.fault c.args.plant.now c.meet_all.new.plant c.in-Err.ensures.looks

pub returns-in-Ok-clause-looks : goal.returns-in-Ok-clause-looks
returns-in-Ok-clause-looks g c =
    let e = c.in-Ok.ensures.looks in
    looks_well g.P.Plant Failed c.args.plant.now c.meet_all.new.plant c.answers_of.result (e.done (λ is. absurd (cc))) e.stays (e.cause.stays (λ is. absurd (cc))) c.answers_of.ensures.never

pub returns-in-Ok-clause-answers : goal.returns-in-Ok-clause-answers
returns-in-Ok-clause-answers g c = λ told slots before names has are.
    let listed = c.args.budb.now.database.listed in
    let new = c.meet_all.new.courses in
    let same : c.as_mut_slice.result.now ≡ c.args.courses.items = search rules in
    let first = subst (AreCourses slots listed before names) (sym same) are in
    let later = c.in-Ok.ensures.goes told slots before names has first in
    let count : length new ≡ length c.as_mut_slice.result.now = courses_count slots listed before names new later ∙ sym (courses_count slots listed before names c.as_mut_slice.result.now first) in
    let all = subst (AreCourses slots listed before names) (sym (all_new c.args.courses.len new c.args.courses.items (count ∙ c.as_mut_slice.ensures.len))) later in
    IfOk-weaker c.answers_of.result (AreOutcomes _) (AnswersNames slots listed before names) (λ ps outcomes. answers_all slots listed before names _ ps all outcomes) c.answers_of.ensures.are
