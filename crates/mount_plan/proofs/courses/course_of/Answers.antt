use Rattle.std.proofs.Common.{◌≡◌, Some, rules, sym, subst}
use Rattle.std.specs.Prelude.{Option, IfOk}
use Rattle.budb_fold.specs.Lookups.{VolumeDump, latest}
use Rattle.mount_plan.specs.Courses.{IsCourseFor}
use Rattle.mount_plan.proofs.courses.course_of.Goals as goal

pub returns-in-Ok-Some : goal.returns-in-Ok-Some
returns-in-Ok-Some c = λ slots.
    let listed = c.args.budb.now.database.listed in
    let found : latest listed c.args.name.now c.args.before ≡ Some c.in-Ok-Some.one = search rules in
    subst (λ (o : Option VolumeDump). IfOk c.course_of_one.result (IsCourseFor slots listed o)) (sym found) (c.course_of_one.ensures slots)
