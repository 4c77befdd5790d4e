-- A world on tapes of one whose archive is held holds its own archive, whatever dumps of the other's its journal lists.
use Rattle.std.proofs.Common.{◌≡◌, ◌⊎◌, ℕ, ◌<◌, ◌≤◌, Option, Some, None, List, [], length, refl, sym, ap, subst, ◌∙◌, arith, inl, inr}
use Rattle.std.specs.Prelude.{Contains, slice_get}
use Rattle.std.proofs.lemmas.Bool.{cases_lt}
use Rattle.std.proofs.lemmas.List.Elements.{All-nil}
use Rattle.budb_changes.specs.declared.records.DumpRecordFields.{DumpRecordFields}
use Rattle.budb_changes.specs.declared.change.Change.{Change}
use Rattle.budb_changes.specs.Bytes.{encoded}
use Rattle.budb_changes.specs.Forms.{IsChange, AreChanges}
use Rattle.budb_fold.specs.Database.{after}
use Rattle.plant_core.specs.Records.{Record}
use Rattle.plant_core.specs.Crashes.{seen_in}
use Rattle.tape_text.specs.Items.{Read}
use Rattle.tape_scan.specs.Slots.{Slot}
use Rattle.tape_answers.specs.Reading.{items_of}
use Rattle.tape_answers.specs.Slots.{slot_of}
use Rattle.backup_session.specs.Worlds.{World, archive_of}
use Rattle.backup_session.specs.Bounded.{HasTapes}
use Rattle.script_journals.specs.Worlds.{HasGroupForm}
use Rattle.session_archives.specs.Held.{HoldsWorld}
use Rattle.session_archives.proofs.Slots.{slot_there, slot_told}
use Rattle.session_archives.proofs.Images.{world_at_rest}
use Rattle.lost_journals.specs.Archives.{ListsDumpsOf, HasItsTapes}
use Rattle.lost_journals.specs.Worlds.{HasTapesOf, HasTapesAnywhere}
use Rattle.lost_journals.proofs.Alone.{alone_holds}

nothing_in : {X : Type 0} (x : X) → Contains [] x → ⊥
nothing_in x there = omega (arith, there.1)

-- ---- a slot of a world whose archive is held

module _ (w : World) (held : HoldsWorld w) where
  none_there : (k : ℕ) (o : Option Slot) → slice_get (archive_of w).slots k ≡ o → (w.state.tape k ≡ []) ⊎ (k < w.setting.slots)
  none_there k None is = inl (held.holds.seen.others k is)
  none_there k (Some t) is = inr (slot_told w.setting.present w.state.tape w.setting.slots k t is).0

  -- there is no tape behind the slots
  pub bare_or_slot : (k : ℕ) → (w.state.tape k ≡ []) ⊎ (k < w.setting.slots)
  bare_or_slot k = none_there k (slice_get (archive_of w).slots k) refl

  pub read_there : (k : ℕ) → k < w.setting.slots → Read (w.state.tape k) (items_of (w.state.tape k))
  read_there k below = held.holds.seen.tapes k (slot_of w.setting.present w.state.tape k) (slot_there w.setting.present w.state.tape w.setting.slots k below)

-- ---- tapes in their own slots are tapes in whichever

pub in_place : (w v : World) → HoldsWorld w → HasTapesOf w v → HasTapesAnywhere w v
in_place w v held has = record {
  place = λ k. k;
  tapes = has.tapes;
  once = λ j k some_j some_k same. same;
  beyond = λ k behind. bare k behind (has.tapes k);
  here = has.here;
  alone = has.alone;
  settled = has.settled;
  contents = has.contents;
}
  where
    old_bare : (k : ℕ) → v.setting.slots ≤ k → (w.state.tape k ≡ []) ⊎ (k < w.setting.slots) → w.state.tape k ≡ []
    old_bare k behind (inl none) = none
    old_bare k behind (inr below) = absurd (omega (arith, behind, below, has.slots))

    bare : (k : ℕ) → v.setting.slots ≤ k → (v.state.tape k ≡ w.state.tape k) ⊎ (v.state.tape k ≡ []) → v.state.tape k ≡ []
    bare k behind (inl same) = same ∙ old_bare k behind (bare_or_slot w held k)
    bare k behind (inr blank) = blank

-- ---- the law

module _ (w v : World) (held : HoldsWorld w) (has : HasTapesAnywhere w v) where
  abbrev new_slot : ℕ → Slot
  new_slot k = slot_of v.setting.present v.state.tape k

  -- a tape is blank, or that of one of the other's slots
  abbrev IsFrom : ℕ → Type 0
  IsFrom k = (v.state.tape k ≡ []) ⊎ ((has.place k < w.setting.slots) × (v.state.tape k ≡ w.state.tape (has.place k)))

  of_old : (k : ℕ) → v.state.tape k ≡ w.state.tape (has.place k) → (w.state.tape (has.place k) ≡ []) ⊎ (has.place k < w.setting.slots) → IsFrom k
  of_old k same (inl none) = inl (same ∙ none)
  of_old k same (inr below) = inr (below, same)

  from_by : (k : ℕ) → (v.state.tape k ≡ w.state.tape (has.place k)) ⊎ (v.state.tape k ≡ []) → IsFrom k
  from_by k (inl same) = of_old k same (bare_or_slot w held (has.place k))
  from_by k (inr blank) = inl blank

  from : (k : ℕ) → IsFrom k
  from k = from_by k (has.tapes k)

  told : (k : ℕ) (s : Slot) → slice_get (archive_of v).slots k ≡ Some s → s ≡ new_slot k
  told k s at = (slot_told v.setting.present v.state.tape v.setting.slots k s at).1

  abbrev IsItsTape : ℕ → Slot → Type 0
  IsItsTape k s = (s.items ≡ []) ⊎ ((t : Slot) × (slice_get (archive_of w).slots (has.place k) ≡ Some t) × (s.items ≡ t.items))

  tape_from : (k : ℕ) → IsFrom k → IsItsTape k (new_slot k)
  tape_from k (inl blank) = inl (ap items_of blank)
  tape_from k (inr (below, same)) =
      inr (slot_of w.setting.present w.state.tape (has.place k), slot_there w.setting.present w.state.tape w.setting.slots (has.place k) below, ap items_of same)

  some_tape : (k : ℕ) (s : Slot) → slice_get (archive_of v).slots k ≡ Some s → (s.items ≡ [] → ⊥) → v.state.tape k ≡ [] → ⊥
  some_tape k s at some blank = some (ap (λ (x : Slot). x.items) (told k s at) ∙ ap items_of blank)

  pub its_tapes : HasItsTapes (archive_of w) (archive_of v)
  its_tapes = record {
    place = has.place;
    tapes = λ k s at. subst (IsItsTape k) (sym (told k s at)) (tape_from k (from k));
    once = λ j k s t at_j at_k some_s some_t same. has.once j k (some_tape j s at_j some_s) (some_tape k t at_k some_t) same;
  }

  read_from : (k : ℕ) → IsFrom k → Read (v.state.tape k) (items_of (v.state.tape k))
  read_from k (inl blank) = subst (λ (rs : List Record). Read rs (items_of rs)) (sym blank) tt
  read_from k (inr (below, same)) = subst (λ (rs : List Record). Read rs (items_of rs)) (sym same) (read_there w held (has.place k) below)

  reads : (k : ℕ) (s : Slot) → slice_get (archive_of v).slots k ≡ Some s → Read ((seen_in v.state).tape k) s.items
  reads k s at = subst (λ (x : Slot). Read (v.state.tape k) x.items) (sym (told k s at)) (read_from k (from k))

  not_below : (k : ℕ) → slice_get (archive_of v).slots k ≡ None → k < v.setting.slots → ⊥
  not_below k none below = absurd (let e : None ≡ Some (new_slot k) = sym none ∙ slot_there v.setting.present v.state.tape v.setting.slots k below in cc)

  others : (k : ℕ) → slice_get (archive_of v).slots k ≡ None → (seen_in v.state).tape k ≡ []
  others k none = elim (cases_lt k v.setting.slots) [
    | inl below ↦ absurd (not_below k none below)
    | inr behind ↦ has.beyond k behind
  ]

  short : (k : ℕ) → IsFrom k → length (v.state.tape k) ≤ 4294967295
  short k (inl blank) = subst (λ (rs : List Record). length rs ≤ 4294967295) (sym blank) (omega arith)
  short k (inr (below, same)) = subst (λ (rs : List Record). length rs ≤ 4294967295) (sym same) (held.tapes.records (has.place k))

  bounded : HasTapes v
  bounded = record { slots = λ k here. (has.here k here).1; records = λ k. short k (from k) }

  -- its journal lists some of the dumps
  pub under_any : AreChanges v.log → v.state.log ≡ encoded v.log → ListsDumpsOf (archive_of w) (archive_of v) → HoldsWorld v
  under_any changes log lists =
      let holds = alone_holds (seen_in w.state) (seen_in v.state) (archive_of w) (archive_of v) held.records held.holds.seen lists its_tapes has.contents changes (ap (λ (bytes : List ℕ). Some bytes) log) reads others in
      world_at_rest v holds.0 holds.1 has.settled (λ k here. (has.here k here).0) bounded (subst HasGroupForm (sym has.alone) tt)

  -- it lists none
  pub under_no_dump : AreChanges v.log → v.state.log ≡ encoded v.log → (after v.log).listed ≡ [] → HoldsWorld v
  under_no_dump changes log none = under_any changes log (λ d there. absurd (nothing_in d (subst (λ (ds : List DumpRecordFields). Contains ds d) none there)))

  pub under_none : v.log ≡ [] → v.state.log ≡ [] → HoldsWorld v
  unfolding encoded
  under_none empty bytes =
      under_no_dump (subst AreChanges (sym empty) (All-nil IsChange)) (bytes ∙ ap encoded (sym empty)) (ap (λ (l : List Change). (after l).listed) empty)

  same_bytes : (bytes log : List ℕ) → Some bytes ≡ Some log → bytes ≡ log
  same_bytes bytes log same = cc

  -- it is the same
  pub under_same : v.log ≡ w.log → v.state.log ≡ w.state.log → HoldsWorld v
  under_same log bytes =
      under_any (subst AreChanges (sym log) held.holds.seen.changes) (bytes ∙ same_bytes w.state.log (encoded w.log) held.holds.seen.log ∙ ap encoded (sym log))
      (λ d there. inl (subst (λ (l : List Change). Contains (after l).listed d) log there))
