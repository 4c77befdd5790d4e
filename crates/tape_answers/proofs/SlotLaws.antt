-- The slots of a plant as the function of its tapes' records gives them.
use Rattle.std.proofs.Common.{◌≡◌, ℕ, zero, suc, ◌+◌, Bool, List, length, refl, sym, ◌∙◌, ap, subst, arith}
use Rattle.std.specs.Prelude.{Some, slice_get}
use Rattle.plant_core.specs.Records.{Record}
use Rattle.tape_text.specs.Items.{Read}
use Rattle.tape_scan.specs.Slots.{Slot}
use Rattle.tape_answers.specs.Slots.{slot_of, slots_from, slots_of}
use Rattle.tape_answers.proofs.FieldLaws.{Forms}
use Rattle.tape_answers.proofs.ReadingLaws.{tape_read}

module _ (present : ℕ → Bool) (tape : ℕ → List Record) where
  from_long : (first n : ℕ) → length (slots_from first n present tape) ≡ n
  from_long first zero = refl
  from_long first (suc n) = ap suc (from_long (suc first) n)

  from_at : (first n k : ℕ) (s : Slot) → slice_get (slots_from first n present tape) k ≡ Some s → s ≡ slot_of present tape (first + k)
  from_at first zero k s at = absurd (cc)
  from_at first (suc n) zero s at =
      let place : first ≡ first + 0 = omega arith in
      let same : slot_of present tape first ≡ s = (let e : Some (slot_of present tape first) ≡ Some s = at in cc) in
      sym same ∙ ap (slot_of present tape) place
  from_at first (suc n) (suc k) s at = (let place : suc first + k ≡ first + suc k = omega arith in from_at (suc first) n k s at ∙ ap (slot_of present tape) place)

  pub slots_long : (count : ℕ) → length (slots_of count present tape) ≡ count
  unfolding slots_of
  slots_long count = from_long 0 count

  slot_at : (count k : ℕ) (s : Slot) → slice_get (slots_of count present tape) k ≡ Some s → s ≡ slot_of present tape k
  unfolding slots_of
  slot_at count k s at = (let place : 0 + k ≡ k = omega arith in from_at 0 count k s at ∙ ap (slot_of present tape) place)

  pub slot_here : (count k : ℕ) (s : Slot) → slice_get (slots_of count present tape) k ≡ Some s → s.here ≡ present k
  slot_here count k s at = ap (λ (x : Slot). x.here) (slot_at count k s at)

  pub slot_items : Forms → (count k : ℕ) (s : Slot) → slice_get (slots_of count present tape) k ≡ Some s → Read (tape k) s.items
  slot_items forms count k s at = subst (λ (x : Slot). Read (tape k) x.items) (sym (slot_at count k s at)) (tape_read forms (tape k))
