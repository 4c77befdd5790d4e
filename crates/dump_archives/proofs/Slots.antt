-- The slots of a plant are those whose items its tapes' records say.
use Rattle.std.proofs.Common.{◌≡◌, ℕ, zero, suc, ◌+◌, Bool, Some, List, [], ◌∷◌, map, refl, subst, arith}
use Rattle.std.specs.Prelude.{slice_get}
use Rattle.plant_core.specs.Records.{Record}
use Rattle.tape_text.specs.Items.{Item, Read}
use Rattle.tape_scan.specs.Slots.{Slot}
use Rattle.tape_answers.specs.Reading.{items_of}
use Rattle.tape_answers.specs.Slots.{slots_from, slots_of}
use Rattle.archive_model.specs.Turns.{is_here}

-- a tape's records say one list of items
abbrev pub ReadOnce : Type 0
ReadOnce = (records : List Record) (items : List Item) → Read records items → items ≡ items_of records

module _ (once : ReadOnce) (present : ℕ → Bool) (old tape : ℕ → List Record) where
  from_again : (first n : ℕ) (slots : List Slot) → map is_here slots ≡ map is_here (slots_from first n present old) → ((k : ℕ) (s : Slot) → slice_get slots k ≡ Some s → Read (tape (first + k)) s.items) → slots ≡ slots_from first n present tape
  from_again first zero [] same read = refl
  from_again first zero (s ∷ slots) same read = absurd (cc)
  from_again first (suc n) [] same read = absurd (cc)
  from_again first (suc n) (s ∷ slots) same read =
      let place : first + 0 ≡ first = omega arith in
      let items : s.items ≡ items_of (tape first) = once (tape first) s.items (subst (λ (k : ℕ). Read (tape k) s.items) place (read 0 s refl)) in
      let here : s.here ≡ present first = cc in
      let others : map is_here slots ≡ map is_here (slots_from (suc first) n present old) = cc in
      let rest = from_again (suc first) n slots others (λ k t at. (let next : first + suc k ≡ suc first + k = omega arith in subst (λ (j : ℕ). Read (tape j) t.items) next (read (suc k) t at))) in
      λ i. record { here = here i; items = items i } ∷ rest i

  -- slots that are here as a plant's, and whose items are those of its tapes, are the plant's
  pub slots_again : (n : ℕ) (slots : List Slot) → map is_here slots ≡ map is_here (slots_of n present old) → ((k : ℕ) (s : Slot) → slice_get slots k ≡ Some s → Read (tape k) s.items) → slots ≡ slots_of n present tape
  unfolding slots_of
  slots_again n slots same read = from_again 0 n slots same (λ k s at. (let place : k ≡ 0 + k = omega arith in subst (λ (j : ℕ). Read (tape j) s.items) place (read k s at)))
