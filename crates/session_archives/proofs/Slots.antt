-- The slots of a plant are those whose items its tapes' records say.
use Rattle.std.proofs.Common.{◌≡◌, ℕ, zero, suc, ◌+◌, ◌<◌, Bool, Some, List, [], ◌∷◌, map, refl, sym, ap, subst, ◌∙◌, arith}
use Rattle.std.specs.Prelude.{slice_get}
use Rattle.plant_core.specs.Records.{Record}
use Rattle.tape_text.specs.Items.{Item, Read}
use Rattle.tape_scan.specs.Slots.{Slot}
use Rattle.tape_answers.specs.Reading.{items_of}
use Rattle.tape_answers.specs.Slots.{slot_of, slots_from, slots_of}
use Rattle.archive_model.specs.Turns.{with_items, is_here}

-- a tape's records say one list of items
abbrev pub ReadOnce : Type 0
ReadOnce = (records : List Record) (items : List Item) → Read records items → items ≡ items_of records

module _ (once : ReadOnce) (present : ℕ → Bool) (old tape : ℕ → List Record) where
  from_again : (first n : ℕ) (slots : List Slot) → map is_here slots ≡ map is_here (slots_from first n present old) → ((k : ℕ) (s : Slot) → slice_get slots k ≡ Some s → Read (tape (first + k)) s.items) → slots ≡ slots_from first n present tape
  from_again first zero [] same read = refl
  from_again first zero (s ∷ slots) same read = absurd (cc)
  from_again first (suc n) [] same read = absurd (cc)
  from_again first (suc n) (s ∷ slots) same read =
      let place : first + 0 ≡ first = omega arith in
      let items : s.items ≡ items_of (tape first) = once (tape first) s.items (subst (λ (k : ℕ). Read (tape k) s.items) place (read 0 s refl)) in
      let here : s.here ≡ present first = cc in
      let others : map is_here slots ≡ map is_here (slots_from (suc first) n present old) = cc in
      let rest = from_again (suc first) n slots others (λ k t at. (let next : first + suc k ≡ suc first + k = omega arith in subst (λ (j : ℕ). Read (tape j) t.items) next (read (suc k) t at))) in
      λ i. record { here = here i; items = items i } ∷ rest i

  -- slots that are here as a plant's, and whose items are those of its tapes, are the plant's
  pub slots_again : (n : ℕ) (slots : List Slot) → map is_here slots ≡ map is_here (slots_of n present old) → ((k : ℕ) (s : Slot) → slice_get slots k ≡ Some s → Read (tape k) s.items) → slots ≡ slots_of n present tape
  unfolding slots_of
  slots_again n slots same read = from_again 0 n slots same (λ k s at. (let place : k ≡ 0 + k = omega arith in subst (λ (j : ℕ). Read (tape j) s.items) place (read k s at)))

-- other items on a slot leave which of them are here
pub with_here : (k : ℕ) (items : List Item) (slots : List Slot) → map is_here (with_items k items slots) ≡ map is_here slots
with_here k items [] = refl
with_here zero items (s ∷ slots) = refl
with_here (suc k) items (s ∷ slots) = ap (λ (l : List Bool). s.here ∷ l) (with_here k items slots)

module _ (present : ℕ → Bool) (tape : ℕ → List Record) where
  from_there : (first n k : ℕ) → k < n → slice_get (slots_from first n present tape) k ≡ Some (slot_of present tape (first + k))
  from_there first zero k below = absurd (omega arith)
  from_there first (suc n) zero below = (let place : first ≡ first + 0 = omega arith in ap (λ (j : ℕ). Some (slot_of present tape j)) place)
  from_there first (suc n) (suc k) below =
      let place : suc first + k ≡ first + suc k = omega arith in
      from_there (suc first) n k (omega (arith, below)) ∙ ap (λ (j : ℕ). Some (slot_of present tape j)) place

  -- a slot below their number is among them
  pub slot_there : (n k : ℕ) → k < n → slice_get (slots_of n present tape) k ≡ Some (slot_of present tape k)
  unfolding slots_of
  slot_there n k below = (let place : 0 + k ≡ k = omega arith in from_there 0 n k below ∙ ap (λ (j : ℕ). Some (slot_of present tape j)) place)

  from_told : (first n k : ℕ) (s : Slot) → slice_get (slots_from first n present tape) k ≡ Some s → (k < n) × (s ≡ slot_of present tape (first + k))
  from_told first zero k s at = absurd (cc)
  from_told first (suc n) zero s at =
      let place : first ≡ first + 0 = omega arith in
      let same : slot_of present tape first ≡ s = (let e : Some (slot_of present tape first) ≡ Some s = at in cc) in
      (omega arith, sym same ∙ ap (slot_of present tape) place)
  from_told first (suc n) (suc k) s at =
      let rest = from_told (suc first) n k s at in
      let place : suc first + k ≡ first + suc k = omega arith in
      (omega (arith, rest.0), rest.1 ∙ ap (slot_of present tape) place)

  -- and one that is among them is the plant's of its number
  pub slot_told : (n k : ℕ) (s : Slot) → slice_get (slots_of n present tape) k ≡ Some s → (k < n) × (s ≡ slot_of present tape k)
  unfolding slots_of
  slot_told n k s at = (let rest = from_told 0 n k s at in let place : 0 + k ≡ k = omega arith in (rest.0, rest.1 ∙ ap (slot_of present tape) place))
