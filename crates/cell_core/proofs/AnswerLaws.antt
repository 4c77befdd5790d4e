-- What follows from an answer.
use Rattle.std.proofs.Common.{◌≡◌, ◌≢◌, ◌⊎◌, inl, inr}
use Rattle.std.specs.Prelude.{Result, Ok, Err}
use Rattle.cell_core.specs.declared.fault.CellFault.{CellFault}
use Rattle.cell_core.specs.declared.fault.CellFault.TheVariants.{Failed, NoVolume, VolumeExists, NoVnode, TooLarge, BadImage, Memory}
use Rattle.cell_core.specs.Answers.{Answers}

module _ {T S R : Type 0} (may_fail : Type 0) (made : R → S → T) (due : Result T CellFault) (old : S) where
  -- what never fails answers as what may fail
  pub may_answer : (r : Result R CellFault) (new : S) → Answers ⊥ made due old r new → Answers may_fail made due old r new
  may_answer (Ok answer) new h = h
  may_answer (Err Failed) new h = absurd h.0
  may_answer (Err Memory) new h = h
  may_answer (Err NoVolume) new h = h
  may_answer (Err VolumeExists) new h = h
  may_answer (Err NoVnode) new h = h
  may_answer (Err TooLarge) new h = h
  may_answer (Err (BadImage at)) new h = h

  pub never_failed : (r : Result R CellFault) (new : S) → Answers ⊥ made due old r new → r ≢ Err Failed
  never_failed (Ok answer) new h = λ e. cc
  never_failed (Err Failed) new h = absurd h.0
  never_failed (Err Memory) new h = λ e. cc
  never_failed (Err NoVolume) new h = λ e. cc
  never_failed (Err VolumeExists) new h = λ e. cc
  never_failed (Err NoVnode) new h = λ e. cc
  never_failed (Err TooLarge) new h = λ e. cc
  never_failed (Err (BadImage at)) new h = λ e. cc

  -- the state is as before, or what the call makes of it
  pub left_by : (r : Result R CellFault) (new : S) → Answers may_fail made due old r new → (new ≡ old) ⊎ ((answer : R) × (due ≡ Ok (made answer new)))
  left_by (Ok answer) new h = inr (answer, h)
  left_by (Err Failed) new h = inl h.1
  left_by (Err Memory) new h = inl h
  left_by (Err NoVolume) new h = inl h.1
  left_by (Err VolumeExists) new h = inl h.1
  left_by (Err NoVnode) new h = inl h.1
  left_by (Err TooLarge) new h = inl h.1
  left_by (Err (BadImage at)) new h = inl h.1
