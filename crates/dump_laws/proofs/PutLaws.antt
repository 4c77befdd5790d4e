-- What stands on the tapes behind a step: what stood there, and what the dump has put.
use Rattle.std.proofs.Common.{◌≡◌, ℕ, ◌≤◌, true, Some, List, [], ◌++◌, length, take, refl, sym, ap, subst, ◌∙◌, arith, inl, inr, append-nil, append_assoc}
use Rattle.std.specs.Prelude.{Contains, slice_get}
use Rattle.std.proofs.lemmas.List.{take_all}
use Rattle.budb_changes.specs.declared.records.TapePart.{TapePart}
use Rattle.budb_changes.specs.declared.records.DumpRecordFields.{DumpRecordFields}
use Rattle.plant_core.specs.Crashes.{State}
use Rattle.tape_text.specs.Items.{Item}
use Rattle.tape_scan.specs.Slots.{Slot}
use Rattle.archive_model.specs.Archives.{Archive, listed_of}
use Rattle.archive_model.specs.Holding.{place_of, holds, HasNoHead}
use Rattle.archive_model.specs.Settled.{HoldsSettled}
use Rattle.archive_model.specs.Turns.{with_items}
use Rattle.archive_model.proofs.ExampleLaws.{with_twice}
use Rattle.archive_model.proofs.HoldLaws.{lies_within}
use Rattle.archive_model.proofs.PutLaws.{with_get}
use Rattle.dump_laws.specs.Keeping.{HasPut, HavePut}

-- no heads of other dumps are among these
abbrev pub AreOwn : ℕ → List Item → Type 0
AreOwn id more = (other : ℕ) → (other ≡ id → ⊥) → HasNoHead other more

module _ (s : State) (a : Archive) (records : List DumpRecordFields) (held : HoldsSettled s a records) (id : ℕ) where
  -- what is held of a listed dump lies within its tape
  ends_within : (k : ℕ) (t : Slot) → slice_get a.slots k ≡ Some t → (d : DumpRecordFields) (tape : ℕ) (p : TapePart) → Contains (listed_of a) d → place_of d tape ≡ Some p → holds d tape t.items ≡ true → p.end ≤ length t.items
  ends_within k t at d tape p there place holds_it = lies_within d p t.items (held.seen.kept.lie d k t (held.seen.kept.dumps.complete d (inl there)) at tape p place holds_it)

  -- items behind those of a tape
  behind_put : (k : ℕ) (t : Slot) (more : List Item) → slice_get a.slots k ≡ Some t → AreOwn id more → HasPut id (listed_of a) t.items (t.items ++ more)
  behind_put k t more at own = record {
    front = length t.items;
    more = more;
    items = ap (λ (l : List Item). l ++ more) (sym (take_all (length t.items) t.items (omega arith)));
    own = own;
    behind = ends_within k t at;
  }

  none_put : (k : ℕ) (t : Slot) → slice_get a.slots k ≡ Some t → HasPut id (listed_of a) t.items t.items
  none_put k t at = subst (λ (l : List Item). HasPut id (listed_of a) t.items l) (append-nil t.items) (behind_put k t [] at (λ other no. tt))

  -- all slots as they were
  pub same_put : HavePut id (listed_of a) a.slots a.slots
  same_put k t at = (t, at, none_put k t at)

  -- one slot with other items
  pub slot_put : (k : ℕ) (t : Slot) (items : List Item) → slice_get a.slots k ≡ Some t → HasPut id (listed_of a) t.items items → HavePut id (listed_of a) a.slots (with_items k items a.slots)
  slot_put k t items at put j u at_j = elim (with_get k items a.slots j u at_j) [
    | inl here ↦ (t, ap (λ (n : ℕ). slice_get a.slots n) here.0 ∙ at, subst (λ (l : List Item). HasPut id (listed_of a) t.items l) (sym here.1) put)
    | inr other ↦ (u, other.1, none_put j u other.1)
  ]

  -- items behind those of a tape
  pub more_put : (k : ℕ) (t : Slot) (more : List Item) → slice_get a.slots k ≡ Some t → AreOwn id more → HavePut id (listed_of a) a.slots (with_items k (t.items ++ more) a.slots)
  more_put k t more at own = slot_put k t (t.items ++ more) at (behind_put k t more at own)

  -- put in two steps
  pub twice_put : (k : ℕ) (t : Slot) (first next : List Item) → slice_get a.slots k ≡ Some t → AreOwn id (first ++ next) → HavePut id (listed_of a) a.slots (with_items k ((t.items ++ first) ++ next) (with_items k (t.items ++ first) a.slots))
  twice_put k t first next at own =
      let all : (t.items ++ first) ++ next ≡ t.items ++ (first ++ next) = append_assoc t.items first next in
      subst (λ (l : List Slot). HavePut id (listed_of a) a.slots l) (sym (with_twice k ((t.items ++ first) ++ next) (t.items ++ first) a.slots))
      (subst (λ (l : List Item). HavePut id (listed_of a) a.slots (with_items k l a.slots)) (sym all) (more_put k t (first ++ next) at own))

  -- items behind a front of a tape that has all that is held there of listed dumps
  pub front_put : (k : ℕ) (t : Slot) (n : ℕ) (more : List Item) → slice_get a.slots k ≡ Some t → AreOwn id more
      → ((d : DumpRecordFields) (tape : ℕ) (p : TapePart) → Contains (listed_of a) d → place_of d tape ≡ Some p → holds d tape t.items ≡ true → p.end ≤ n) → HavePut id (listed_of a) a.slots (with_items k (take n t.items ++ more) a.slots)
  front_put k t n more at own behind = slot_put k t (take n t.items ++ more) at (record { front = n; more = more; items = refl; own = own; behind = behind })
