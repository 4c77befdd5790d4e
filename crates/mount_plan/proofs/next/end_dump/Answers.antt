use Rattle.std.proofs.Common.{◌≡◌, Some, None, false, rules}
use Rattle.std.specs.List.{list_any}
use Rattle.mount_plan.specs.Courses.{is_unread, first_missing}
use Rattle.mount_plan.proofs.CourseLaws.{waits_still}
use Rattle.mount_plan.proofs.next.end_dump.Goals as goal

pub returns-then-is_some_unread-clause-goes : goal.returns-then-is_some_unread-clause-goes
returns-then-is_some_unread-clause-goes c = λ slots listed one id a. waits_still slots listed one c.args.dump.now id c.args.going.now a

pub returns-in-Some-clause-goes : goal.returns-in-Some-clause-goes
returns-in-Some-clause-goes c = λ slots listed one id a.
    c.miss.ensures.goes slots listed one id a
    (let seen : list_any is_unread c.args.going.now.kept.items ≡ false = search rules in seen)
    (let first : first_missing c.args.going.now.kept.items ≡ Some c.in-Some.tape = search rules in first)

pub returns-in-None-clause-goes : goal.returns-in-None-clause-goes
returns-in-None-clause-goes c = λ slots listed one id a.
    c.go_on.ensures.goes slots listed one id a
    (let seen : list_any is_unread c.args.going.now.kept.items ≡ false = search rules in seen)
    (let first : first_missing c.args.going.now.kept.items ≡ None = search rules in first)
