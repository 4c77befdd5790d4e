use Rattle.std.proofs.Common.{◌≡◌, ◌∷◌, ◌++◌, [], List, sym, subst}
use Rattle.std.specs.Prelude.{All}
use Rattle.std.proofs.lemmas.List.Elements.{All-push, All-nil}
use Rattle.mount_plan.specs.declared.fault.Played.{Played}
use Rattle.mount_plan.specs.Courses.{AreOutcomes}
use Rattle.mount_plan.specs.Outcomes.{IsPlayed}
use Rattle.mount_plan.proofs.CourseLaws.{outcomes_more}
use Rattle.mount_plan.proofs.outcomes.answers_of.Goals as goal

pub loop-course-init : goal.loop-course-init
loop-course-init c = record {
  are = subst (AreOutcomes []) (sym c.new-all.ensures) tt;
  only = subst (All IsPlayed) (sym c.new-all.ensures) (All-nil IsPlayed);
}

pub loop-course-preserved : goal.loop-course-preserved
loop-course-preserved c =
    let so_far = c.loop-course.invariant in
    record {
      are = subst (AreOutcomes (c.loop-course.yielded ++ c.in-Some.course ∷ [])) (sym c.in-Ok-push.ensures.ok) (outcomes_more c.loop-course.yielded c.loop-course.all c.in-Some.course c.in-Ok.played so_far.are c.in-Ok.ensures.is);
      only = subst (All IsPlayed) (sym c.in-Ok-push.ensures.ok) (All-push IsPlayed c.loop-course.all c.in-Ok.played so_far.only c.in-Ok.ensures.only);
    }
