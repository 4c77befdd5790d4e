use Rattle.std.proofs.Common.{◌≡◌, ◌≤◌, ℕ, [], Some, take}
use Rattle.std.specs.List.{count_by}
use Rattle.plant_effects.specs.Runs.{state_of, loaded_of, Done, SameNumbers, StaysQuiet}
use Rattle.rehearsal.specs.Counts.{is_block, is_mark}
use Rattle.rehearsal.proofs.tapes.count_loaded.Given as goal

abbrev pub invariant-loop-place : goal.invariant-loop-place
invariant-loop-place g l =
    let P = g.P.Plant in
    record {
      blocks : P.tells → (k : ℕ) → loaded_of P l.fn.plant ≡ Some k → l.records.blocks ≡ count_by is_block (take l.place ((state_of P l.fn.plant).tape k));
      marks : P.tells → (k : ℕ) → loaded_of P l.fn.plant ≡ Some k → l.records.marks ≡ count_by is_mark (take l.place ((state_of P l.fn.plant).tape k));
      few_blocks : l.records.blocks ≤ l.place;
      few_marks : l.records.marks ≤ l.place;
      done : Done P [] l.fn.plant l.plant;
      numbers : SameNumbers P l.fn.plant l.plant;
      stays : StaysQuiet P l.fn.plant l.plant;
    }
