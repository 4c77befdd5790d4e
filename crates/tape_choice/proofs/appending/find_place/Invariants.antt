use Rattle.std.proofs.Common.{ℕ, ◌≡◌, ◌<◌, ◌≤◌, Bool, false, List}
use Rattle.std.specs.Prelude.{Some, slice_get}
use Rattle.plant_effects.specs.Runs.{StaysQuiet}
use Rattle.tape_scan.specs.Slots.{Slot}
use Rattle.tape_scan.specs.Looking.{HasSlots, Loads}
use Rattle.tape_choice.specs.Append.{AreWhole, append_passes}
use Rattle.tape_choice.proofs.appending.find_place.Given as goal

abbrev pub invariant-loop-slot : goal.invariant-loop-slot
invariant-loop-slot g l =
    let P = g.P.Plant in
    record {
      none : P.tells → (slots : List Slot) (whole : ℕ → Bool) → HasSlots P slots l.fn.plant → AreWhole P whole l.fn.plant → (k : ℕ) (s : Slot) → l.port.first ≤ k → k < l.slot → slice_get slots k ≡ Some s → append_passes l.last.dump l.last.part whole k s ≡ false;
      loads : Loads P l.fn.plant l.plant;
      log_size : (P.view l.plant).log_size ≡ (P.view l.fn.plant).log_size;
      stays : StaysQuiet P l.fn.plant l.plant;
      faults : (P.view l.plant).faults ≡ (P.view l.fn.plant).faults;
    }
