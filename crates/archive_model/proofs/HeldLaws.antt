-- What an archive that is held gives back; and blank tapes under an empty log hold the archive without dumps.
use Rattle.std.proofs.Common.{◌≡◌, ℕ, zero, suc, Some, None, Ok, List, [], ◌∷◌, length, take, sym, ap, subst, ◌∙◌, arith, inl, inr}
use Rattle.std.specs.Prelude.{Result, Contains, find, slice_get}
use Rattle.std.proofs.lemmas.List.Elements.{All-nil, All-head, All-tail}
use Rattle.vnode_model.specs.declared.volumes.VolumeFields.{VolumeFields}
use Rattle.budb_changes.specs.declared.records.DumpRecordFields.{DumpRecordFields}
use Rattle.budb_changes.specs.Bytes.{encoded}
use Rattle.budb_changes.specs.Forms.{IsChange}
use Rattle.budb_fold.specs.Chains.{IsChain}
use Rattle.plant_core.specs.Records.{Record}
use Rattle.plant_core.specs.Stock.{Stock, IsNothing}
use Rattle.tape_text.specs.Items.{Item, Read}
use Rattle.tape_text.specs.Texts.{Tape, tape_items}
use Rattle.tape_text.specs.Parts.{FoundPart}
use Rattle.tape_scan.specs.Slots.{Slot, IsClosedAt, IsFound, Located}
use Rattle.archive_model.specs.Plays.{records_of}
use Rattle.archive_model.specs.Clones.{Cloned, AreWritten, last_of}
use Rattle.archive_model.specs.Archives.{Archive, Refusal, refused_by, is_unheld, needs, all_here, AreBlank, blank_archive, IsKept, Holds}
use Rattle.tape_scan.specs.Scans.{IsClosedIn, IsBegunIn}
use Rattle.archive_model.proofs.KeepLaws.{written_plays}
use Rattle.archive_model.proofs.OnceLaws.{plays_once}

-- The contents of a dump whose chain was written of clones, and lies on slots that hold its tapes, are the last clone.
pub held_is_clone : (stock : Stock) (a : Archive) (records : List DumpRecordFields) (d : DumpRecordFields) (name ids : List ℕ) (cs : List Cloned) (v : VolumeFields) → Holds stock a records → Contains records d → IsChain records d.id name (Ok ids)
    → find (is_unheld a.slots) (needs records ids name) ≡ None → AreWritten (all_here a.slots) name None (records_of records ids) cs → last_of None cs ≡ Some v → a.contents d.id name ≡ Ok v
held_is_clone stock a records d name ids cs v held there chain tapes written last =
    let contents = held.kept.contents_are d name ids there chain tapes in
    let same : contents.0 ≡ Ok v = plays_once (all_here a.slots) name None (records_of records ids) contents.0 (Ok v) contents.1 (written_plays (all_here a.slots) name (records_of records ids) cs v written last) in
    contents.2 ∙ ap refused_by same

-- ---- blank tapes

slot_is_blank : (slots : List Slot) (k : ℕ) (s : Slot) → AreBlank slots → slice_get slots k ≡ Some s → s.items ≡ []
slot_is_blank [] k s blank is = absurd (cc)
slot_is_blank (t ∷ slots) zero s blank is = let same : t ≡ s = cc in subst (λ (x : Slot). x.items ≡ []) same (All-head (λ (x : Slot). x.items ≡ []) t slots blank)
slot_is_blank (t ∷ slots) (suc k) s blank is = slot_is_blank slots k s (All-tail (λ (x : Slot). x.items ≡ []) t slots blank) is

empty_take : (n : ℕ) (t : Tape) → take n [] ≡ tape_items t → ⊥
empty_take zero t same = absurd (cc)
empty_take (suc n) t same = absurd (cc)

nothing_closed : (items : List Item) (p : FoundPart) → items ≡ [] → IsClosedIn items p → ⊥
nothing_closed items p none stands = empty_take p.end stands.tape (subst (λ (l : List Item). take p.end l ≡ tape_items stands.tape) none stands.front)

nothing_begun : (items : List Item) (p : FoundPart) → items ≡ [] → IsBegunIn items p → ⊥
nothing_begun items p none stands = absurd (omega (arith, stands.begun, stands.within, ap length none))

none_listed : {X : Type 0} (x : X) → Contains [] x → ⊥
none_listed x there = absurd (omega (arith, there.1))

first_closed : (slots : List Slot) (parts : List Located) (d : DumpRecordFields) → AreBlank slots → IsFound slots parts d → ⊥
first_closed slots [] d blank found = absurd found.whole.begins
first_closed slots (l ∷ parts) d blank found =
    let at = All-head (IsClosedAt slots) l parts found.closed in
    nothing_closed at.here.items l.found (slot_is_blank slots l.slot at.here blank at.at) at.closed

blank_kept : (slots : List Slot) (contents : ℕ → List ℕ → Result VolumeFields Refusal) → AreBlank slots → IsKept [] slots contents []
blank_kept slots contents blank = record {
  dumps = record {
    sound = λ d there. absurd (none_listed d there);
    complete = λ d is. elim is [
      | inl listed ↦ absurd (none_listed d listed)
      | inr unlisted ↦ absurd (first_closed slots unlisted.parts d blank unlisted.found)
    ];
  };
  ids_once = λ d e there. absurd (none_listed d there);
  held_once = λ d tape j k s t there. absurd (none_listed d there);
  heads_once = λ l m a. absurd (nothing_begun a.here.items l.found (slot_is_blank slots l.slot a.here blank a.at) a.begun);
  lie = λ d k s there. absurd (none_listed d there);
  whole = λ d there. absurd (none_listed d there);
  agree = λ d e parts there. absurd (none_listed d there);
  contents_are = λ d name ids there. absurd (none_listed d there);
}

pub blank_holds : (stock : Stock) (slots : List Slot) (contents : ℕ → List ℕ → Result VolumeFields Refusal) → IsNothing stock → AreBlank slots → Holds stock (blank_archive slots contents) []
unfolding encoded
blank_holds stock slots contents none blank = record {
  changes = All-nil IsChange;
  log = none.log;
  tapes = λ k s is. subst (λ (rs : List Record). Read rs s.items) (sym (none.tapes k)) (subst (λ (items : List Item). Read [] items) (sym (slot_is_blank slots k s blank is)) tt);
  others = λ k is. none.tapes k;
  kept = blank_kept slots contents blank;
}
