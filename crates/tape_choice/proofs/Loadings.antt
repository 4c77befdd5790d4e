-- What loads leave of a tape, and what holds unless the outside refused.
use Rattle.std.proofs.Common.{◌≡◌, ℕ, Bool, List, sym, subst}
use Rattle.std.specs.Prelude.{Result, Ok, Err, ◌↔◌, IsTrue}
use Rattle.plant_core.specs.declared.plant.Plant.{Ghosts as Plant}
use Rattle.plant_core.specs.Records.{Record, NoBad}
use Rattle.plant_effects.specs.Runs.{state_of}
use Rattle.tape_text.specs.Items.{Item, Read}
use Rattle.tape_scan.specs.Looking.{Loads}
use Rattle.tape_scan.proofs.Looking.{loads_keep_tape}
use Rattle.tape_choice.specs.declared.fault.ChoiceFault.{ChoiceFault}
use Rattle.tape_choice.specs.declared.fault.ChoiceFault.TheVariants.{Failed, Memory}
use Rattle.tape_choice.specs.Scene.{UnlessFailed}

module _ {D : Type 0} (P : Plant D) where
  pub read_loaded : (old new : D) (k : ℕ) (items : List Item) → P.tells → Loads P old new → Read ((state_of P old).tape k) items → Read ((state_of P new).tape k) items
  read_loaded old new k items told loads = subst (λ (tape : List Record). Read tape items) (sym (loads_keep_tape P old new loads told k))

  pub whole_loaded : (old new : D) (k : ℕ) (whole : Bool) → P.tells → Loads P old new → (IsTrue whole ↔ NoBad ((state_of P old).tape k)) → IsTrue whole ↔ NoBad ((state_of P new).tape k)
  whole_loaded old new k whole told loads = subst (λ (tape : List Record). IsTrue whole ↔ NoBad tape) (sym (loads_keep_tape P old new loads told k))

-- ---- what holds unless the outside refused

pub unless_map : {T A B : Type 0} (r : Result T ChoiceFault) → (A → B) → UnlessFailed r A → UnlessFailed r B
unless_map (Ok value) f a = f a
unless_map (Err Failed) f a = tt
unless_map (Err Memory) f a = f a

pub unless_both : {T A B C : Type 0} (r : Result T ChoiceFault) → (A → B → C) → UnlessFailed r A → UnlessFailed r B → UnlessFailed r C
unless_both (Ok value) f a b = f a b
unless_both (Err Failed) f a b = tt
unless_both (Err Memory) f a b = f a b

pub unless_any : {T A : Type 0} (r : Result T ChoiceFault) → A → UnlessFailed r A
unless_any (Ok value) a = a
unless_any (Err Failed) a = tt
unless_any (Err Memory) a = a

-- a fault that is handed on
pub handed_on : {T A B : Type 0} (r : Result T ChoiceFault) (e : ChoiceFault) → r ≡ Err e → (A → B) → UnlessFailed {T = Unit {0}} (Err e) A → UnlessFailed r B
handed_on (Ok value) e is f a = absurd (cc)
handed_on (Err Failed) e is f a = tt
handed_on {A = A} (Err Memory) e is f a =
    let same : e ≡ Memory = cc in
    f (subst (λ (x : ChoiceFault). UnlessFailed {T = Unit {0}} (Err x) A) same a)
