-- What the calls of a cell answer.
use Rattle.std.specs.Prelude.{◌≡◌, ◌⊎◌, ℕ, List, Result, Ok, Err, IfErr}
use Rattle.cell_core.specs.declared.fault.CellFault.{CellFault}
use Rattle.cell_core.specs.declared.fault.CellFault.TheVariants.{Failed, Memory}
use Rattle.cell_core.specs.declared.stored.Stored.{Stored}
use Rattle.cell_core.specs.Calls.{Creation}

-- An answer and the state that it leaves, where this outcome is due. What is answered makes the outcome with the new state; a
-- refusal is the one that is due, and the state is as before. So it is where memory was refused, and where the call failed, if
-- it may fail.
abbrev pub Answers : {T S R : Type 0} → Type 0 → (R → S → T) → Result T CellFault → S → Result R CellFault → S → Type 0
Answers may_fail made due old (Ok answer) new = due ≡ Ok (made answer new)
Answers may_fail made due old (Err Failed) new = may_fail × (new ≡ old)
Answers may_fail made due old (Err Memory) new = new ≡ old
Answers may_fail made due old (Err fault) new = (due ≡ Err fault) × (new ≡ old)

-- the list that is due is left
abbrev pub Changes : Result (List Stored) CellFault → List Stored → Result (Unit {0}) CellFault → List Stored → Type 0
Changes due old result new = Answers {T = List Stored} (Unit {0}) (λ (done : Unit {0}) (list : List Stored). list) due old result new

-- the same, and the new volume's id is told
abbrev pub Creates : Result Creation CellFault → List Stored → Result ℕ CellFault → List Stored → Type 0
Creates due old result new = Answers {T = Creation} (Unit {0}) (λ (id : ℕ) (list : List Stored). record { id = id; list = list }) due old result new

-- no other error is told
abbrev pub OnlyFromOutside : {T : Type 0} → Result T CellFault → Type 0
OnlyFromOutside result = IfErr result (λ e. (e ≡ Failed) ⊎ (e ≡ Memory))
