-- Listed dumps are held where they were.
use Rattle.std.proofs.Common.{◌≡◌, ℕ, true, Some, List, ◌++◌, sym, ap, subst, ◌∙◌, inl, inr}
use Rattle.std.specs.Prelude.{Contains, slice_get}
use Rattle.budb_changes.specs.declared.records.DumpRecordFields.{DumpRecordFields}
use Rattle.tape_text.specs.Items.{Item}
use Rattle.tape_scan.specs.Slots.{Slot}
use Rattle.tape_scan.proofs.ListLaws.{same_or_not}
use Rattle.archive_model.specs.Holding.{place_of, holds}
use Rattle.archive_model.specs.Archives.{IsHeld}
use Rattle.archive_model.specs.Turns.{with_items, StillHeld}
use Rattle.archive_model.proofs.PutLaws.{with_there, with_other}
use Rattle.archive_model.proofs.QuietLaws.{held_longer}

pub still_self : (listed : List DumpRecordFields) (slots : List Slot) → StillHeld listed slots slots
still_self listed slots d tape k t there at held = (t, at, held)

pub still_then : (listed : List DumpRecordFields) (one two three : List Slot) → StillHeld listed one two → StillHeld listed two three → StillHeld listed one three
still_then listed one two three first second d tape k t there at held = (let x = first d tape k t there at held in second d tape k x.0 there x.1 x.2)

-- all tapes of a dump stay held
pub still_whole : (listed : List DumpRecordFields) (one two : List Slot) (d : DumpRecordFields) → StillHeld listed one two → Contains listed d → IsHeld d one → IsHeld d two
still_whole listed one two d still there all p named = (let x = all p named in let y = still d p.tape x.0 x.1 there x.2 x.3 in (x.0, y.0, y.1, y.2))

same_slot : (slots : List Slot) (j k : ℕ) (t s : Slot) → j ≡ k → slice_get slots j ≡ Some t → slice_get slots k ≡ Some s → t ≡ s
same_slot slots j k t s same at_j at_k = (let e : Some t ≡ Some s = sym at_j ∙ ap (λ (n : ℕ). slice_get slots n) same ∙ at_k in cc)

-- items behind those of a tape
pub still_put : (listed : List DumpRecordFields) (slots : List Slot) (k : ℕ) (s : Slot) (more : List Item) → slice_get slots k ≡ Some s → StillHeld listed slots (with_items k (s.items ++ more) slots)
still_put listed slots k s more at d tape j t there at_j held = elim (same_or_not j k) [
  | inl same ↦
      (let new = with_there k (s.items ++ more) slots s at in
      let slot : t ≡ s = same_slot slots j k t s same at_j at in
      let held_s : holds d tape s.items ≡ true = subst (λ (x : Slot). holds d tape x.items ≡ true) slot held in
      (new.0, ap (λ (n : ℕ). slice_get (with_items k (s.items ++ more) slots) n) same ∙ new.1, subst (λ (l : List Item). holds d tape l ≡ true) (sym new.2) (held_longer (place_of d tape) d tape s.items more held_s)))
  | inr other ↦ (t, with_other k (s.items ++ more) slots j t other at_j, held)
]

-- other items on a tape on which nothing listed is held
pub still_free : (listed : List DumpRecordFields) (slots : List Slot) (k : ℕ) (s : Slot) (items : List Item) → slice_get slots k ≡ Some s → ((d : DumpRecordFields) (tape : ℕ) → Contains listed d → holds d tape s.items ≡ true → ⊥) → StillHeld listed slots (with_items k items slots)
still_free listed slots k s items at free d tape j t there at_j held = elim (same_or_not j k) [
  | inl same ↦ absurd (free d tape there (subst (λ (x : Slot). holds d tape x.items ≡ true) (same_slot slots j k t s same at_j at) held))
  | inr other ↦ (t, with_other k items slots j t other at_j, held)
]
