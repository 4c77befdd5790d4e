use Rattle.std.proofs.Common.{◌≡◌, ℕ, List}
use Rattle.std.specs.Prelude.{Option, Some}
use Rattle.budb_changes.specs.declared.records.DumpRecordFields.{DumpRecordFields}
use Rattle.budb_fold.specs.Lookups.{record_of}
use Rattle.tape_scan.specs.Slots.{Slot}
use Rattle.tape_scan.specs.Looking.{HasSlots}
use Rattle.restore_chain.proofs.ReadLaws.{HasRead}
use Rattle.mount_plan.specs.Courses.{IsHeldSo, AreCourses}
use Rattle.mount_plan.proofs.meeting.meet_each.Given as goal

abbrev pub invariant-loop-course : goal.invariant-loop-course
invariant-loop-course g l =
    let P = g.P.Plant in
    record {
      goes : P.tells → (slots : List Slot) (listed : List DumpRecordFields) (before : Option ℕ) (names : List (List ℕ)) → HasSlots P slots l.fn.plant → IsHeldSo P slots l.fn.dump l.fn.tape l.fn.plant l.fn.held → record_of listed l.fn.id ≡ Some l.fn.dump
          → AreCourses slots listed before names l.fn.courses → AreCourses slots listed before names l.courses;
      read : HasRead P l.fn.plant l.plant;
    }
