use Rattle.std.proofs.Common.{ℕ, ◌≡◌, ◌≤◌, List, [], Some, take}
use Rattle.plant_effects.specs.Runs.{state_of, loaded_of, Done, Leaves, SameNumbers, StaysQuiet}
use Rattle.tape_text.specs.Items.{Item, Read}
use Rattle.tape_scan.specs.declared.scanning_walk.Walk.TheVariants as walks
use Rattle.tape_scan.specs.Steps.{marks_in, Walks}
use Rattle.tape_scan.proofs.scanning.walk_tape.Given as goal

abbrev pub invariant-loop-place : goal.invariant-loop-place
invariant-loop-place g l =
    let P = g.P.Plant in
    record {
      taken : P.tells → (k : ℕ) (items : List Item) → loaded_of P l.fn.plant ≡ Some k → Read ((state_of P l.fn.plant).tape k) items → Walks walks.Nothing 0 (take l.place items) l.walk;
      marks : marks_in l.walk ≤ l.place;
      done : Done P [] l.fn.plant l.plant;
      leaves : Leaves P [] l.fn.plant l.plant;
      numbers : SameNumbers P l.fn.plant l.plant;
      stays : StaysQuiet P l.fn.plant l.plant;
      faults : (P.view l.plant).faults ≡ (P.view l.fn.plant).faults;
    }
