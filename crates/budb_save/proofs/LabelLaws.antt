-- The slot that is picked, and the label of one to read from.
use Rattle.std.proofs.Common.{◌≡◌, ℕ, suc, ◌+◌, Bool, true, List, [], ◌∷◌, inl, inr, refl, ◌∙◌, ap, subst, arith}
use Rattle.std.specs.Prelude.{Option, Some, None, find, slice_get, ◌&&◌, ◌==◌}
use Rattle.std.proofs.lemmas.Bool.{cases_Bool, and_parts, eqb-true}
use Rattle.bk_text.specs.Blanks.{is_same_text}
use Rattle.archive_model.specs.Holding.{numbered_from}
use Rattle.archive_model.proofs.SourceLaws.{same_text}
use Rattle.plant_core.specs.declared.plant.Plant.{Ghosts as Plant}
use Rattle.plant_core.specs.Records.{Record, block_with, mark, bad}
use Rattle.plant_effects.specs.Runs.{state_of}
use Rattle.tape_config.specs.declared.port.PortFields.{PortFields}
use Rattle.tape_frames.specs.declared.label.LabelFields.{LabelFields}
use Rattle.tape_frames.specs.declared.frame.Frame.TheVariants as frames
use Rattle.tape_frames.specs.Frames.{spelling}
use Rattle.tape_frames.specs.Layouts.{FitsLabel}
use Rattle.tape_text.specs.Items.{Item, Says, Filemark, Nothing, Read}
use Rattle.tape_scan.specs.Slots.{Slot}
use Rattle.tape_scan.specs.Looking.{HasSlots}
use Rattle.tape_choice.specs.Choice.{is_among}
use Rattle.budb_save.specs.declared.choosing.Wish.{Wish}
use Rattle.budb_save.specs.declared.choosing.Wish.TheVariants.{Reading}
use Rattle.budb_save.specs.declared.choosing.Picked.{Picked}
use Rattle.budb_save.specs.Saves.{save_name, save_label}
use Rattle.budb_save.specs.Choice.{tape_fits, slot_fits, picked, picking, pick_of}
use Rattle.budb_save.specs.Saving.{load_pick}
use Rattle.budb_save.specs.Reading.{IsLabelled}

-- ---- a slot that is found

found_from : (test : ℕ → Slot → Bool) (n : ℕ) (slots : List Slot) (x : ℕ × Slot) → find (λ y. test y.0 y.1) (numbered_from n slots) ≡ Some x
    → (k : ℕ) × (x.0 ≡ n + k) × (slice_get slots k ≡ Some x.1) × (test x.0 x.1 ≡ true)
found_from test n [] x is = absurd (cc)
found_from test n (s ∷ ss) x is = elim (cases_Bool (test n s)) [
  | inl hit ↦
      (let both : Some (n, s) ≡ Some x = rw hit at is in
      let same : (n, s) ≡ x = cc in
      let number : n ≡ x.0 = ap (λ (y : ℕ × Slot). y.0) same in
      (0, omega (arith, number), ap (λ (y : ℕ × Slot). Some y.1) same, subst (λ (y : ℕ × Slot). test y.0 y.1 ≡ true) same hit))
  | inr miss ↦
      (let rest = found_from test (n + 1) ss x (rw miss at is) in
      (suc rest.0, omega (arith, rest.1), rest.2, rest.3))
]

-- a tape that is picked
pub record IsPickedAt (wish : Wish) (slots : List Slot) (p : Picked) : Type 0 where
  pub slot : Slot
  pub at : slice_get slots p.slot ≡ Some slot
  pub fits : slot_fits wish slot ≡ true

picked_from : (wish : Wish) (port : PortFields) (slots : List Slot) (o : Option (ℕ × Slot)) (p : Picked) → picked wish port slots ≡ o → pick_of o ≡ Some p → IsPickedAt wish slots p
picked_from wish port slots None p found is = absurd (cc)
picked_from wish port slots (Some (k, s)) p found is =
    let at = found_from (λ (j : ℕ) (t : Slot). is_among port j && slot_fits wish t) 0 slots (k, s) found in
    let same : picking k s.items ≡ p = cc in
    let here : k ≡ p.slot = ap (λ (q : Picked). q.slot) same in
    let place : at.0 ≡ p.slot = omega (arith, at.1, here) in
    record { slot = s; at = subst (λ (n : ℕ). slice_get slots n ≡ Some s) place at.2; fits = (and_parts (is_among port k) (slot_fits wish s) at.3).1 }

pub picked_at : (wish : Wish) (port : PortFields) (slots : List Slot) (p : Picked) → pick_of (picked wish port slots) ≡ Some p → IsPickedAt wish slots p
picked_at wish port slots p is = picked_from wish port slots (picked wish port slots) p refl is

-- ---- its label

pub record HasLabel (tape : List Record) : Type 0 where
  pub permanent : List ℕ
  pub is : IsLabelled permanent tape

same_label : (a : LabelFields) → FitsLabel a → a.initial ≡ 0 → a.afs ≡ save_name → a ≡ save_label a.permanent
same_label a fits initial named = elim fits.carries [
  | inl none ↦
      (let tape : a.tape ≡ 0 = none.1 in
      λ i. record { initial = initial i; tape = tape i; afs = named i; permanent = a.permanent })
  | inr some ↦ absurd (some.0 initial)
]

labelled_by : (a : LabelFields) (r : Record) (rs : List Record) (is : List Item) → tape_fits Reading (Says (frames.Label a) ∷ is) ≡ true → Read (r ∷ rs) (Says (frames.Label a) ∷ is) → HasLabel (r ∷ rs)
labelled_by a (block_with bytes) rs is fits read =
    let parts = and_parts (a.initial == 0) (is_same_text a.afs save_name) fits in
    let same : a ≡ save_label a.permanent = same_label a read.0.0 (eqb-true a.initial 0 parts.0) (same_text a.afs save_name parts.1) in
    record {
      permanent = a.permanent;
      is = record {
        form = read.0.0.permanent;
        first = ap (λ (b : List ℕ). Some (block_with b)) read.0.1 ∙ ap (λ (l : LabelFields). Some (block_with (spelling (frames.Label l)))) same;
      };
    }
labelled_by a mark rs is fits read = absurd read.0
labelled_by a bad rs is fits read = absurd read.0

labelled_items : (items : List Item) (tape : List Record) → tape_fits Reading items ≡ true → Read tape items → HasLabel tape
labelled_items [] tape fits read = absurd (cc)
labelled_items (Says (frames.Label a) ∷ is) [] fits read = absurd read
labelled_items (Says (frames.Label a) ∷ is) (r ∷ rs) fits read = labelled_by a r rs is fits read
labelled_items (Says (frames.DumpHead a) ∷ is) tape fits read = absurd (cc)
labelled_items (Says (frames.VolHead a) ∷ is) tape fits read = absurd (cc)
labelled_items (Says (frames.Data a) ∷ is) tape fits read = absurd (cc)
labelled_items (Says (frames.VolEnd a) ∷ is) tape fits read = absurd (cc)
labelled_items (Says (frames.DumpEnd a) ∷ is) tape fits read = absurd (cc)
labelled_items (Filemark ∷ is) tape fits read = absurd (cc)
labelled_items (Nothing ∷ is) tape fits read = absurd (cc)

pub labelled : {D : Type 0} (P : Plant D) (port : PortFields) (slots : List Slot) (plant : D) (p : Picked) → HasSlots P slots plant → load_pick port slots ≡ Some p → HasLabel ((state_of P plant).tape p.slot)
labelled P port slots plant p has is =
    let at = picked_at Reading port slots p is in
    labelled_items at.slot.items ((state_of P plant).tape p.slot) (and_parts at.slot.here (tape_fits Reading at.slot.items) at.fits).1 (has.each p.slot at.slot at.at).items
