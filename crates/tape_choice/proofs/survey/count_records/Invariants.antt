use Rattle.std.proofs.Common.{ℕ, ◌≡◌, ◌≤◌, List, [], take}
use Rattle.std.specs.Prelude.{Some}
use Rattle.plant_effects.specs.Runs.{state_of, loaded_of, Done, Leaves, SameNumbers, StaysQuiet}
use Rattle.tape_text.specs.Items.{Item, Read}
use Rattle.tape_choice.specs.Surveys.{survey_of}
use Rattle.tape_choice.proofs.survey.count_records.Given as goal

abbrev pub invariant-loop-place : goal.invariant-loop-place
invariant-loop-place g l =
    let P = g.P.Plant in
    record {
      seen : P.tells → (k : ℕ) (items : List Item) → loaded_of P l.fn.plant ≡ Some k → Read ((state_of P l.fn.plant).tape k) items → l.seen ≡ survey_of (take l.place items);
      few : l.seen.marks ≤ l.place;
      done : Done P [] l.fn.plant l.plant;
      leaves : Leaves P [] l.fn.plant l.plant;
      numbers : SameNumbers P l.fn.plant l.plant;
      stays : StaysQuiet P l.fn.plant l.plant;
      faults : (P.view l.plant).faults ≡ (P.view l.fn.plant).faults;
    }
