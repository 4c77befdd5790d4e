-- Whatever dumps of an archive a journal lists, and whichever of its tapes are left, in whichever slots: an archive is held.
use Rattle.std.proofs.Common.{◌≡◌, ℕ, ◌<◌, Some, None, List, [], ◌∙◌, inl, inr}
use Rattle.std.specs.Prelude.{Result, Contains, slice_get}
use Rattle.vnode_model.specs.declared.volumes.VolumeFields.{VolumeFields}
use Rattle.budb_changes.specs.declared.records.DumpRecordFields.{DumpRecordFields}
use Rattle.budb_changes.specs.Bytes.{encoded}
use Rattle.budb_changes.specs.Forms.{AreChanges}
use Rattle.plant_core.specs.Stock.{Stock}
use Rattle.tape_text.specs.Items.{Read}
use Rattle.tape_scan.specs.Slots.{Slot, Located, IsFound}
use Rattle.tape_scan.proofs.ClosedLaws.{found_once}
use Rattle.archive_model.specs.Archives.{Archive, Refusal, listed_of, IsDump, IsHeld, AreHolders, IsKept, Holds}
use Rattle.archive_model.proofs.ListedLaws.{parents_below}
use Rattle.archive_model.proofs.WordLaws.{holders}
use Rattle.lost_journals.specs.Archives.{ListsDumpsOf, HasItsTapes, HasItsContents}
use Rattle.lost_journals.proofs.Found.{found_dump}
use Rattle.lost_journals.proofs.Placed.{found_there, left, stay, placed_kept}

-- ---- as if all dumps were listed

module _ (listed records : List DumpRecordFields) (slots : List Slot) (contents : ℕ → List ℕ → Result VolumeFields Refusal) (kept : IsKept listed slots contents records) where
  was_dump : (d : DumpRecordFields) → IsDump records slots d → Contains records d
  was_dump d (inl there) = there
  was_dump d (inr un) = kept.dumps.complete d (found_dump listed records slots contents kept un.parts d un.found un.above)

  whole_dump : (d : DumpRecordFields) → Contains records d → IsHeld d slots → (parts : List Located) × IsFound slots parts d × AreHolders d parts slots
  whole_dump d there held = elim (kept.dumps.sound d there) [
    | inl is_listed ↦ kept.whole d is_listed held
    | inr un ↦ (un.parts, un.found, holders listed records slots contents kept d un un.parts un.found un.parts (λ l in_parts. in_parts))
  ]

  same_dump : (d e : DumpRecordFields) (parts : List Located) → Contains records d → IsFound slots parts e → e.id ≡ d.id → e ≡ d
  same_dump d e parts there found same = elim (kept.dumps.sound d there) [
    | inl is_listed ↦ kept.agree d e parts is_listed found same
    | inr un ↦ found_once slots kept.heads_once parts un.parts e d found un.found same
  ]

  -- what slots keep of dumps they keep of them where each is listed
  all_listed : IsKept records slots contents records
  all_listed = record {
    dumps = record { sound = λ d there. inl there; complete = was_dump };
    ids_once = kept.ids_once;
    held_once = kept.held_once;
    heads_once = kept.heads_once;
    lie = kept.lie;
    whole = whole_dump;
    agree = same_dump;
    contents_are = kept.contents_are;
  }

  -- each dump's parent is below it, where the listed ones' are
  all_above : ((d : DumpRecordFields) → Contains listed d → d.parent < d.id) → (d : DumpRecordFields) → Contains records d → d.parent < d.id
  all_above parents d there = elim (kept.dumps.sound d there) [
    | inl is_listed ↦ parents d is_listed
    | inr un ↦ un.above
  ]

-- other contents that the dumps have as well
same_contents : (listed records : List DumpRecordFields) (slots : List Slot) (contents contents2 : ℕ → List ℕ → Result VolumeFields Refusal) → IsKept listed slots contents records
    → ((d : DumpRecordFields) (name : List ℕ) → Contains records d → contents2 d.id name ≡ contents d.id name) → IsKept listed slots contents2 records
same_contents listed records slots contents contents2 kept same = record {
  dumps = kept.dumps;
  ids_once = kept.ids_once;
  held_once = kept.held_once;
  heads_once = kept.heads_once;
  lie = kept.lie;
  whole = kept.whole;
  agree = kept.agree;
  contents_are = λ d name ids there chain held. (let old = kept.contents_are d name ids there chain held in (old.0, old.1, same d name there ∙ old.2));
}

-- ---- archives

-- what is found whole on tapes of another archive is a dump of it
pub found_was : (stock : Stock) (a b : Archive) (records : List DumpRecordFields) → Holds stock a records → HasItsTapes a b → (parts : List Located) (d : DumpRecordFields) → IsFound b.slots parts d → d.parent < d.id → IsDump (listed_of a) a.slots d
found_was stock a b records held tapes parts d found above =
    let old = found_there records a.slots a.contents (all_listed (listed_of a) records a.slots a.contents held.kept) b.slots tapes.place tapes.tapes tapes.once parts d found in
    found_dump (listed_of a) records a.slots a.contents held.kept old.0 d old.1 above

module _ (stock new : Stock) (a b : Archive) (records : List DumpRecordFields) (held : Holds stock a records) (lists : ListsDumpsOf a b) (tapes : HasItsTapes a b) (has : HasItsContents a b) where
  kept_as : IsKept records a.slots a.contents records
  kept_as = all_listed (listed_of a) records a.slots a.contents held.kept

  are : (d : DumpRecordFields) → Contains (listed_of b) d → Contains records d
  are d there = held.kept.dumps.complete d (lists d there)

  above : (d : DumpRecordFields) → Contains records d → d.parent < d.id
  above = all_above (listed_of a) records a.slots a.contents held.kept (parents_below a.log)

  what_is_left : List DumpRecordFields
  what_is_left = left records a.slots a.contents kept_as b.slots tapes.place tapes.tapes tapes.once (listed_of b) are above

  left_kept : IsKept (listed_of b) b.slots b.contents what_is_left
  unfolding what_is_left
  left_kept =
      same_contents (listed_of b) what_is_left b.slots a.contents b.contents (placed_kept records a.slots a.contents kept_as b.slots tapes.place tapes.tapes tapes.once (listed_of b) are above)
      (λ d name there. has d name (held.kept.dumps.sound d (stay records a.slots a.contents kept_as b.slots tapes.place tapes.tapes tapes.once (listed_of b) are above d there)))

  pub alone_holds : AreChanges b.log → new.log ≡ Some (encoded b.log) → ((k : ℕ) (s : Slot) → slice_get b.slots k ≡ Some s → Read (new.tape k) s.items) → ((k : ℕ) → slice_get b.slots k ≡ None → new.tape k ≡ [])
      → (others : List DumpRecordFields) × Holds new b others
  alone_holds changes log read none = (what_is_left, record { changes = changes; log = log; tapes = read; others = none; kept = left_kept })
