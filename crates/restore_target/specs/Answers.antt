-- What is answered of a target.
use Rattle.std.specs.Prelude.{ℕ, List, Result}
use Rattle.cell_core.specs.declared.fault.CellFault.{CellFault}
use Rattle.cell_core.specs.declared.stored.Stored.{Stored}
use Rattle.cell_core.specs.Answers.{Answers}

-- the id that is due, or the refusal; the list stays
abbrev pub Tells : Result ℕ CellFault → List Stored → Result ℕ CellFault → List Stored → Type 0
Tells due old result new = Answers {T = ℕ} (Unit {0}) (λ (id : ℕ) (list : List Stored). id) due old result new
