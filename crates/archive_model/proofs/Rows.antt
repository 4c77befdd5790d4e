-- The look-up and the places of parts on worked rows.
use Rattle.std.proofs.Common.{◌≡◌, ℕ, true, false, Some, None, Ok, Err, List, [], ◌∷◌, ◌++◌, length, refl, arith}
use Rattle.std.specs.Prelude.{Result}
use Rattle.vnode_model.specs.declared.volumes.VolumeFields.{VolumeFields}
use Rattle.tape_frames.specs.declared.frame.Frame.TheVariants as frames
use Rattle.tape_frames.specs.declared.label.LabelFields.{LabelFields}
use Rattle.tape_frames.specs.declared.dump_head.DumpHeadFields.{DumpHeadFields}
use Rattle.tape_frames.specs.declared.vol_head.VolHeadFields.{VolHeadFields}
use Rattle.tape_frames.specs.declared.data.DataFields.{DataFields}
use Rattle.tape_frames.specs.declared.vol_end.VolEndFields.{VolEndFields}
use Rattle.tape_frames.specs.declared.dump_end.DumpEndFields.{DumpEndFields}
use Rattle.tape_frames.specs.TapeNames.{numbered}
use Rattle.budb_changes.specs.declared.records.VolRecordFields.{VolRecordFields}
use Rattle.budb_changes.specs.declared.records.DumpRecordFields.{DumpRecordFields}
use Rattle.budb_changes.specs.declared.change.Change.{Change}
use Rattle.budb_changes.specs.declared.change.Change.TheVariants.{Begin, Take, Done, Forget}
use Rattle.budb_fold.specs.Lookups.{VolumeDump}
use Rattle.budb_fold.specs.Chains.{IsChain}
use Rattle.tape_text.specs.Items.{Item, Says, Filemark}
use Rattle.tape_text.specs.Texts.{Part, tape_items, IsTape}
use Rattle.tape_text.specs.Parts.{parts_of}
use Rattle.tape_text.specs.Wholes.{IsWhole}
use Rattle.tape_scan.specs.Slots.{Slot}
use Rattle.archive_model.specs.Archives.{Archive, Refusal, NoDump, MissingDump, MissingTape, listed_of, LooksUp}

-- ---- a full dump of one small volume, and one appended to it

module _ (l : LabelFields) (h g : DumpHeadFields) (v w : VolHeadFields) (c d : DataFields) (e f : VolEndFields) (y z : DumpEndFields) where
  abbrev full : Part
  full = record { head = h; fragments = record { head = v; pieces = c ∷ []; end = e } ∷ []; end = y }

  abbrev appended : Part
  appended = record { head = g; fragments = record { head = w; pieces = d ∷ []; end = f } ∷ []; end = z }

  -- nine records: label, filemark, dump head, volume head, data, volume end, filemark, dump end, filemark
  nine_records : length (tape_items (record { label = l; parts = full ∷ [] })) ≡ 9
  nine_records = refl

  full_at : parts_of (record { label = l; parts = full ∷ [] }) ≡ record { part = full; first = 2; end = 9; marks = 3 } ∷ []
  full_at = refl

  -- sixteen with the second dump, which begins at record 9
  sixteen_records : length (tape_items (record { label = l; parts = full ∷ appended ∷ [] })) ≡ 16
  sixteen_records = refl

  appended_at : parts_of (record { label = l; parts = full ∷ appended ∷ [] }) ≡ record { part = full; first = 2; end = 9; marks = 3 } ∷ record { part = appended; first = 9; end = 16; marks = 5 } ∷ []
  appended_at = refl

  -- the first part of a dump that goes on is no dump
  part_alone : full.end.more ≡ 1 → IsWhole (full ∷ []) → ⊥
  part_alone more whole = absurd (let ends : full.end.more ≡ 0 = whole.ends in omega arith)

-- behind a part that goes on elsewhere nothing follows on its tape
nothing_behind : (l : LabelFields) (p q : Part) → p.end.more ≡ 1 → IsTape (record { label = l; parts = p ∷ q ∷ [] }) → ⊥
nothing_behind l p q more is = absurd (let ends : p.end.more ≡ 0 = is.linked.0.0 in omega arith)

-- ---- a chain of three dumps, by look-up

-- the set and the volume have the name `a`, the base is `a.f`
abbrev volume_from : ℕ → ℕ → VolRecordFields
volume_from id from = record { name = 97 ∷ []; id = 1; server = 115 ∷ []; partition = 112 ∷ []; clone = id; from = from; frags = record { tape = 1; at = 3 } ∷ [] }

abbrev record_from : ℕ → ℕ → ℕ → DumpRecordFields
record_from id parent from = record {
  id = id;
  initial = id;
  parent = parent;
  expires = 0;
  set = 97 ∷ [];
  level = 47 ∷ 102 ∷ [];
  base = 97 ∷ 46 ∷ 102 ∷ [];
  tapes = record { tape = 1; first = 2; end = 9; marks = 3; uses = 1; permanent = [] } ∷ [];
  volumes = volume_from id from ∷ [];
  cell = [];
}

abbrev of_record : ℕ → ℕ → ℕ → VolumeDump
of_record id parent from = record { dump = record_from id parent from; volume = volume_from id from }

abbrev three : List Change
three = Begin 20 ∷ Done (record_from 20 0 0) ∷ Begin 30 ∷ Done (record_from 30 20 20) ∷ Begin 40 ∷ Done (record_from 40 30 30) ∷ []

abbrev archive_of : List Change → List Slot → (ℕ → List ℕ → Result VolumeFields Refusal) → Archive
archive_of log slots contents = record { log = log; slots = slots; contents = contents }

abbrev base : List ℕ
base = 97 ∷ 46 ∷ 102 ∷ []

module _ (contents : ℕ → List ℕ → Result VolumeFields Refusal) where
  -- the middle dump is forgotten
  middle_missing : LooksUp (archive_of (three ++ Forget 30 ∷ []) [] contents) (97 ∷ []) None (Err (MissingDump 30))
  middle_missing = (Err 30, (40 ∷ [], (refl, (of_record 40 30 30, refl, (λ none. absurd (omega (arith, none))), refl)), refl), refl)

  whole_chain : IsChain (listed_of (archive_of three [] contents)) 40 (97 ∷ []) (Ok (20 ∷ 30 ∷ 40 ∷ []))
  whole_chain =
      (40 ∷ 30 ∷ [], (20, (refl, (of_record 40 30 30, refl, (λ none. absurd (omega (arith, none))), (refl, (of_record 30 20 20, refl, (λ none. absurd (omega (arith, none))), refl)))), (of_record 20 0 0, refl, refl), refl))

  -- no slot holds a tape: the first in playing order is the oldest dump's
  oldest_first : LooksUp (archive_of three [] contents) (97 ∷ []) None (Err (MissingTape (numbered base 1) 20))
  oldest_first = (Ok (20 ∷ 30 ∷ 40 ∷ []), whole_chain, refl)

  -- a dump at the bound doesn't count
  none_before : LooksUp (archive_of three [] contents) (97 ∷ []) (Some 20) (Err NoDump)
  none_before = refl

  -- a taken tape forgets its dump set alone: the dump before is the latest
  taken : LooksUp (archive_of (three ++ Take 40 ∷ []) [] contents) (97 ∷ []) None (Err (MissingTape (numbered base 1) 20))
  taken = (Ok (20 ∷ 30 ∷ []), (30 ∷ [], (20, (refl, (of_record 30 20 20, refl, (λ none. absurd (omega (arith, none))), refl)), (of_record 20 0 0, refl, refl), refl)), refl)

-- ---- slots that are here

-- the tape of the dump of id 20, as far as a look-up asks
abbrev tape_20 : List Item
tape_20 =
    Says (frames.Label (record { initial = 20; tape = 1; afs = []; permanent = [] })) ∷ Filemark
    ∷ Says (frames.DumpHead (record { id = 20; initial = 20; parent = 0; expires = 0; tape = 1; part = 1; volumes = 1; set = 97 ∷ []; level = 47 ∷ 102 ∷ []; base = base; cell = []; permanent = []; uses = 1 })) ∷ []

abbrev first_alone : List Change
first_alone = Begin 20 ∷ Done (record_from 20 0 0) ∷ []

module _ (contents : ℕ → List ℕ → Result VolumeFields Refusal) where
  alone : (slots : List Slot) → IsChain (listed_of (archive_of first_alone slots contents)) 20 (97 ∷ []) (Ok (20 ∷ []))
  alone slots = ([], (20, refl, (of_record 20 0 0, refl, refl), refl))

  -- a tape that is taken out is missing, though it is told
  out_is_missing : LooksUp (archive_of first_alone (record { here = false; items = tape_20 } ∷ []) contents) (97 ∷ []) None (Err (MissingTape (numbered base 1) 20))
  out_is_missing = (Ok (20 ∷ []), alone (record { here = false; items = tape_20 } ∷ []), refl)

  -- put back, the contents are what a restore gives
  back_is_given : LooksUp (archive_of first_alone (record { here = true; items = tape_20 } ∷ []) contents) (97 ∷ []) None (contents 20 (97 ∷ []))
  back_is_given = (Ok (20 ∷ []), alone (record { here = true; items = tape_20 } ∷ []), refl)
