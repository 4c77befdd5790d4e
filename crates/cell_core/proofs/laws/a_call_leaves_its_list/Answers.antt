use Rattle.std.proofs.Common.{ℕ, List, inl, inr}
use Rattle.cell_core.specs.declared.stored.Stored.{Stored}
use Rattle.cell_core.specs.Calls.{Creation}
use Rattle.cell_core.proofs.AnswerLaws.{left_by}
use Rattle.cell_core.proofs.laws.a_call_leaves_its_list.Goals as goal

pub returns-clause-changes : goal.returns-clause-changes
returns-clause-changes c = λ due old result new h. elim (left_by {R = Unit {0}} (Unit {0}) (λ (done : Unit {0}) (list : List Stored). list) due old result new h) [ inl same ↦ inl same | inr made ↦ inr made.1 ]

pub returns-clause-creates : goal.returns-clause-creates
returns-clause-creates c = λ due old result new h. left_by {T = Creation} (Unit {0}) (λ (id : ℕ) (list : List Stored). record { id = id; list = list }) due old result new h
