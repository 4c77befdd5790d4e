use Rattle.std.proofs.Common.{ℕ, ◌≡◌, [], Some}
use Rattle.plant_effects.specs.Runs.{state_of, loaded_of, Done, Leaves, SameNumbers, StaysQuiet}
use Rattle.plant_effects.proofs.Wholes.{NoneBefore}
use Rattle.plant_effects.proofs.whole.is_whole.Given as goal

abbrev pub invariant-loop-place : goal.invariant-loop-place
invariant-loop-place g l =
    let P = g.P.Plant in
    record {
      none : P.tells → (k : ℕ) → loaded_of P l.fn.plant ≡ Some k → NoneBefore l.place ((state_of P l.fn.plant).tape k);
      done : Done P [] l.fn.plant l.plant;
      leaves : Leaves P [] l.fn.plant l.plant;
      numbers : SameNumbers P l.fn.plant l.plant;
      stays : StaysQuiet P l.fn.plant l.plant;
      faults : (P.view l.plant).faults ≡ (P.view l.fn.plant).faults;
    }
