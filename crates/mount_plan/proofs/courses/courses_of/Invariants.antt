use Rattle.std.proofs.Common.{List, take}
use Rattle.tape_scan.specs.Slots.{Slot}
use Rattle.mount_plan.specs.Courses.{AreCourses}
use Rattle.mount_plan.proofs.courses.courses_of.Given as goal

abbrev pub invariant-loop-name : goal.invariant-loop-name
invariant-loop-name l = (slots : List Slot) → AreCourses slots l.budb.database.listed l.before (take l.name-index l.names) l.courses.items
