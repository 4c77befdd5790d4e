use Rattle.std.proofs.Common.{ℕ, ◌≡◌, ◌<◌, ◌≤◌, false, List, []}
use Rattle.std.specs.Prelude.{Some, slice_get}
use Rattle.plant_effects.specs.Runs.{Done, Leaves, SameNumbers, StaysQuiet}
use Rattle.tape_scan.specs.Slots.{Slot}
use Rattle.tape_scan.specs.Looking.{HasSlots}
use Rattle.budb_save.specs.Choice.{slot_fits}
use Rattle.budb_save.proofs.choosing.choose_save.Given as goal

abbrev pub invariant-loop-slot : goal.invariant-loop-slot
invariant-loop-slot g l =
    let P = g.P.Plant in
    record {
      none : P.tells → (slots : List Slot) → HasSlots P slots l.fn.plant → (k : ℕ) (s : Slot) → l.port.first ≤ k → k < l.slot → slice_get slots k ≡ Some s → slot_fits l.wish s ≡ false;
      done : Done P [] l.fn.plant l.plant;
      leaves : Leaves P [] l.fn.plant l.plant;
      numbers : SameNumbers P l.fn.plant l.plant;
      stays : StaysQuiet P l.fn.plant l.plant;
      faults : (P.view l.plant).faults ≡ (P.view l.fn.plant).faults;
    }
