use Rattle.std.proofs.Common.{◌≡◌, ◌≤◌, ◌+◌, ℕ, List, take}
use Rattle.std.specs.Prelude.{Option}
use Rattle.plant_effects.specs.Runs.{StaysQuiet}
use Rattle.tape_scan.specs.Slots.{Slot}
use Rattle.tape_scan.specs.Looking.{HasSlots, Loads}
use Rattle.mount_plan.specs.Courses.{AreCourses}
use Rattle.mount_plan.specs.Passes.{most_loads}
use Rattle.mount_plan.proofs.meeting.meet_all.Given as goal

abbrev pub invariant-loop-need : goal.invariant-loop-need
invariant-loop-need g l =
    let P = g.P.Plant in
    record {
      loads : Loads P l.fn.plant l.plant;
      stays : StaysQuiet P l.fn.plant l.plant;
      faults : (P.view l.plant).faults ≡ (P.view l.fn.plant).faults;
      goes : P.tells → (slots : List Slot) (before : Option ℕ) (names : List (List ℕ)) → HasSlots P slots l.fn.plant → AreCourses slots l.budb.database.listed before names l.fn.courses → AreCourses slots l.budb.database.listed before names l.courses;
      counted : P.tells → (slots : List Slot) → HasSlots P slots l.fn.plant → (P.view l.plant).loads ≤ (P.view l.fn.plant).loads + most_loads slots l.budb.database.listed (take l.need-index l.needs);
    }
