use Rattle.std.proofs.Common.{◌≡◌, ◌+◌, ◌<◌, ◌≤◌, ◌++◌, ◌∷◌, [], ℕ, List, length, take, get_or, sym, ◌∙◌, ap, subst, arith}
use Rattle.std.proofs.lemmas.List.{take_more, take_all}
use Rattle.mount_plan.specs.declared.course.Course.{Course}
use Rattle.mount_plan.specs.Courses.{AreCourses}
use Rattle.mount_plan.proofs.CourseLaws.{courses_more}
use Rattle.mount_plan.proofs.courses.courses_of.Goals as goal

pub loop-name-init : goal.loop-name-init
loop-name-init c = λ slots. subst (λ (cs : List Course). AreCourses slots c.args.budb.now.database.listed c.args.before [] cs) (sym c.new-courses.ensures.items) tt

pub loop-name-preserved : goal.loop-name-preserved
loop-name-preserved c = λ slots.
    let listed = c.args.budb.now.database.listed in
    let names = c.args.names.now in
    let i = c.loop-name.name-index in
    let n = c.name-item.result in
    let within : i < length names = omega (arith, c.loop-name-test.true) in
    let front : take (i + 1) names ≡ take i names ++ n ∷ [] = take_more names i n within ∙ ap (λ (x : List ℕ). take i names ++ x ∷ []) (sym c.name-item.is) in
    subst (λ (ns : List (List ℕ)). AreCourses slots listed c.args.before ns c.push.new.self.items) (sym front)
    (subst (AreCourses slots listed c.args.before (take i names ++ n ∷ [])) (sym c.in-Ok-push.ensures.items)
    (courses_more slots listed c.args.before (take i names) c.loop-name.courses.items n c.in-Ok.course (c.loop-name.invariant slots) (c.in-Ok.ensures slots)))

pub returns : goal.returns
returns c = λ slots.
    let past : length c.args.names.now ≤ c.loop-name.name-index = omega (arith, c.loop-name-test.false) in
    subst (λ (ns : List (List ℕ)). AreCourses slots c.args.budb.now.database.listed c.args.before ns c.loop-name.courses.items) (take_all c.loop-name.name-index c.args.names.now past) (c.loop-name.invariant slots)
