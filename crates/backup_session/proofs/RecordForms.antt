-- The record of a dump that is found over few slots of short tapes has the form of a record.
use Rattle.std.proofs.Common.{◌≡◌, ℕ, zero, suc, ◌+◌, ◌<◌, ◌≤◌, Some, List, [], ◌∷◌, ◌++◌, length, map, sym, ap, subst, ◌∙◌, arith, append-nil, length-append}
use Rattle.std.specs.Prelude.{All, Contains, filter, slice_get, ◌==◌}
use Rattle.std.specs.List.{flat_map}
use Rattle.std.proofs.lemmas.List.{length-take}
use Rattle.std.proofs.lemmas.List.Elements.{All-nil, All-cons, All-head, All-tail, All-append, All-map, All-contains}
use Rattle.std.proofs.lemmas.List.Sums.{sum_by-cons}
use Rattle.byte_formats.specs.Forms.{IsFour}
use Rattle.tape_frames.specs.declared.frame.Frame.TheVariants as frames
use Rattle.tape_frames.specs.declared.dump_head.DumpHeadFields.{DumpHeadFields}
use Rattle.tape_frames.specs.Layouts.{FitsDumpHead, FitsVolHead}
use Rattle.budb_changes.specs.declared.records.VolRecordFields.{VolRecordFields}
use Rattle.budb_changes.specs.declared.records.DumpRecordFields.{DumpRecordFields}
use Rattle.budb_changes.specs.Dumps.{KeepsDump}
use Rattle.budb_changes.specs.Frags.{KeepsFrags}
use Rattle.budb_changes.specs.Forms.{IsTapePart, IsFrag, IsVolRecord, IsDumpRecord}
use Rattle.tape_text.specs.Items.{Item, Says, IsFitItem}
use Rattle.tape_text.specs.Texts.{Fragment, Part, data_item, fragment_frames, part_items, tape_items}
use Rattle.tape_text.specs.Parts.{FoundFragment, FoundPart, fragment_len, fragments_len, part_len, part_marks, parts_at, parts_of, fragments_of}
use Rattle.tape_text.specs.Wholes.{Lying, lying_as, lying_in, frag_of, tape_part, volume_record, volume_records, record_with}
use Rattle.tape_scan.specs.Slots.{Slot, Located, IsClosedAt, IsFound}
use Rattle.tape_scan.proofs.ListLaws.{contains_map, of_filter}
use Rattle.tape_scan.proofs.ScanLaws.{parts_end}
use Rattle.tape_scan.proofs.PlaceLaws.{amid_all, parts_amid, stands_amid, head_stands}
use Rattle.tape_answers.proofs.ListLaws.{all_members}
use Rattle.archive_model.proofs.CountLaws.{found_fits}

-- ---- places on a tape

few_fragments : (fs : List Fragment) → length fs ≤ fragments_len fs
few_fragments [] = omega arith
few_fragments (f ∷ fs) = omega (arith, few_fragments fs, sum_by-cons fragment_len f fs)

-- no more filemarks than records stand in front of a part's end
marks_within : (at marks : ℕ) (ps : List Part) (q : FoundPart) → marks ≤ at → Contains (parts_at at marks ps) q → q.marks ≤ q.end
marks_within at marks [] q le there = absurd (omega (arith, there.1))
marks_within at marks (p ∷ ps) q le (zero, within, is) =
    let marks_are : q.marks ≡ marks + part_marks p = ap (λ (x : FoundPart). x.marks) (sym is) in
    let end_is : q.end ≡ at + part_len p = ap (λ (x : FoundPart). x.end) (sym is) in
    omega (arith, marks_are, end_is, le, few_fragments p.fragments)
marks_within at marks (p ∷ ps) q le (suc k, within, is) =
    marks_within (at + part_len p) (marks + part_marks p) ps q (omega (arith, le, few_fragments p.fragments)) (k, omega (arith, within), is)

some_item : (items : List Item) (k : ℕ) (i : Item) → slice_get items k ≡ Some i → Contains items i
some_item [] k i is = absurd (cc)
some_item (x ∷ items) zero i is = (let same : x ≡ i = cc in (0, omega arith, same))
some_item (x ∷ items) (suc k) i is = (let rest = some_item items k i is in (suc rest.0, omega (arith, rest.1), rest.2))

-- ---- what stands on a short tape

-- a place of a fragment that the record of a dump can tell, of a volume of the form
record IsTold (l : Lying) : Type 0 where
  head : FitsVolHead l.head
  tape : IsFour l.tape
  at : IsFour l.at

abbrev pub AreShort : List Slot → Type 0
AreShort slots = (k : ℕ) (s : Slot) → slice_get slots k ≡ Some s → length s.items ≤ 4294967295

module _ (slots : List Slot) (l : Located) (c : IsClosedAt slots l) where
  -- the head of a closed part has the form of its frame
  head_fits : FitsDumpHead l.found.part.head
  head_fits =
      let at : slice_get (tape_items c.closed.tape) l.found.first ≡ Some (Says (frames.DumpHead l.found.part.head)) =
      ap (λ (is : List Item). slice_get is l.found.first) (sym (append-nil (tape_items c.closed.tape))) ∙ head_stands c.closed.tape l.found [] c.closed.there in
      All-contains IsFitItem (tape_items c.closed.tape) (Says (frames.DumpHead l.found.part.head)) c.closed.is.fit (some_item (tape_items c.closed.tape) l.found.first (Says (frames.DumpHead l.found.part.head)) at)

  ends_within : l.found.end ≤ length (tape_items c.closed.tape)
  ends_within =
      let p = All-contains (λ (q : FoundPart). q.end ≤ 2 + length (flat_map part_items c.closed.tape.parts)) (parts_of c.closed.tape) l.found (parts_end 2 1 c.closed.tape.parts) c.closed.there in
      omega (arith, p)

  begins_within : l.found.first ≤ l.found.end
  begins_within = (let p = parts_amid 2 1 c.closed.tape.parts l.found c.closed.there in omega (arith, p.3))

  module _ (short : AreShort slots) where
    tape_short : length (tape_items c.closed.tape) ≤ 4294967295
    tape_short = omega (arith, short l.slot c.here c.at, ap (λ (is : List Item). length is) c.closed.front, length-take l.found.end c.here.items)

    tape_form : IsTapePart (tape_part l.found)
    tape_form = record {
      tape = head_fits.tape.1;
      first = omega (arith, begins_within, ends_within, tape_short);
      end = omega (arith, ends_within, tape_short);
      marks = omega (arith, marks_within 2 1 c.closed.tape.parts l.found (omega arith) c.closed.there, ends_within, tape_short);
      uses = head_fits.uses;
      permanent = head_fits.permanent;
    }

    fragment_told : (g : FoundFragment) → Contains (fragments_of l.found) g → IsTold (lying_as l.found.part.head.tape g)
    fragment_told g there =
        let amid = stands_amid c.closed.tape l.found g c.closed.there there in
        let fit = amid_all IsFitItem (tape_items c.closed.tape) (fragment_frames g.fragment) g.at amid c.closed.is.fit in
        record {
          head = All-head IsFitItem (Says (frames.VolHead g.fragment.head)) (map data_item g.fragment.pieces ++ Says (frames.VolEnd g.fragment.end) ∷ []) fit;
          tape = head_fits.tape.1;
          at = omega (arith, amid.count, ap (λ (is : List Item). length is) amid.joined, length-append amid.before (fragment_frames g.fragment ++ amid.behind), tape_short);
        }

    part_told : All IsTold (lying_in l.found)
    part_told = all_members IsTold (lying_in l.found) (λ x there.
        let g = contains_map (lying_as l.found.part.head.tape) (fragments_of l.found) x there in subst IsTold g.2 (fragment_told g.0 g.1))

-- ---- the record

abbrev founds : List Located → List FoundPart
founds parts = map (λ (x : Located). x.found) parts

module _ (slots : List Slot) (short : AreShort slots) where
  tapes_form : (parts : List Located) → All (IsClosedAt slots) parts → All IsTapePart (map tape_part (founds parts))
  tapes_form [] closed = All-nil IsTapePart
  tapes_form (l ∷ ls) closed =
      All-cons IsTapePart (tape_part l.found) (map tape_part (founds ls)) (tape_form slots l (All-head (IsClosedAt slots) l ls closed) short) (tapes_form ls (All-tail (IsClosedAt slots) l ls closed))

  all_told : (parts : List Located) → All (IsClosedAt slots) parts → All IsTold (flat_map lying_in (founds parts))
  all_told [] closed = All-nil IsTold
  all_told (l ∷ ls) closed =
      All-append IsTold (lying_in l.found) (flat_map lying_in (founds ls)) (part_told slots l (All-head (IsClosedAt slots) l ls closed) short) (all_told ls (All-tail (IsClosedAt slots) l ls closed))

-- a volume has the form of a record's, where all fragments are told and it has few
volume_form : (all : List Lying) (l : Lying) → All IsTold all → Contains all l → KeepsFrags (volume_record all l) → IsVolRecord (volume_record all l)
volume_form all l told there keeps =
    let head = (All-contains IsTold all l told there).head in
    record {
      name = head.name;
      id = head.volume;
      server = head.server;
      partition = head.partition;
      clone = head.clone;
      from = head.from;
      some = keeps.0;
      most = keeps.1;
      each = All-map IsFrag frag_of (filter (λ m. m.head.index == l.head.index) all) (all_members (λ m. IsFrag (frag_of m)) (filter (λ m. m.head.index == l.head.index) all) (λ m among.
          let one = All-contains IsTold all m told (of_filter (λ m. m.head.index == l.head.index) all m among).0 in record { tape = one.tape; at = one.at }));
    }

volumes_form : (all : List Lying) → All IsTold all → ((v : VolRecordFields) → Contains (volume_records all) v → KeepsFrags v) → All IsVolRecord (volume_records all)
volumes_form all told keeps = all_members IsVolRecord (volume_records all) (λ v there.
    let l = contains_map (volume_record all) (filter (λ x. x.head.fragment == 1) all) v there in
    subst IsVolRecord l.2 (volume_form all l.0 told (of_filter (λ x. x.head.fragment == 1) all l.0 l.1).0 (subst KeepsFrags (sym l.2) (keeps v there))))

record_form : (h : DumpHeadFields) (ps : List FoundPart) → FitsDumpHead h → All IsTapePart (map tape_part ps) → All IsTold (flat_map lying_in ps) → KeepsDump (record_with h ps)
    → ((v : VolRecordFields) → Contains (volume_records (flat_map lying_in ps)) v → KeepsFrags v) → IsDumpRecord (record_with h ps)
record_form h ps fits tapes told keeps each = record {
  id = fits.id;
  initial = omega (arith, fits.initial.1, fits.id);
  parent = fits.parent;
  expires = fits.expires;
  set = fits.set;
  level = fits.level;
  base = record { some = fits.base.0.some; short = fits.base.1; first = tt; each = fits.base.0.each };
  few_tapes = keeps.few_tapes;
  each_tape = tapes;
  few_volumes = keeps.few_volumes;
  each_volume = volumes_form (flat_map lying_in ps) told each;
  cell = fits.cell;
}

-- what is found over at most 65,535 slots with at most 4,294,967,295 records each
pub found_form : (slots : List Slot) (parts : List Located) (d : DumpRecordFields) → length slots ≤ 65535 → AreShort slots → IsFound slots parts d → IsDumpRecord d
found_form slots [] d few short found = absurd found.whole.begins
found_form slots (l ∷ ls) d few short found =
    let same : record_with l.found.part.head (map (λ (x : Located). x.found) (l ∷ ls)) ≡ d = (let e = found.record_is in cc) in
    let fits = found_fits slots (l ∷ ls) d few found in
    let head = head_fits slots l (All-head (IsClosedAt slots) l ls found.closed) in
    let own = subst (λ (x : DumpRecordFields). KeepsDump x × ((v : VolRecordFields) → Contains x.volumes v → KeepsFrags v)) (sym same) fits in
    subst IsDumpRecord same (record_form l.found.part.head (map (λ (x : Located). x.found) (l ∷ ls)) head (tapes_form slots short (l ∷ ls) found.closed) (all_told slots short (l ∷ ls) found.closed) own.0 own.1)

-- its id isn't 0
pub found_id : (slots : List Slot) (parts : List Located) (d : DumpRecordFields) → IsFound slots parts d → 0 < d.id
found_id slots [] d found = absurd found.whole.begins
found_id slots (l ∷ ls) d found =
    let same : record_with l.found.part.head (map (λ (x : Located). x.found) (l ∷ ls)) ≡ d = (let e = found.record_is in cc) in
    let head = head_fits slots l (All-head (IsClosedAt slots) l ls found.closed) in
    omega (arith, ap (λ (x : DumpRecordFields). x.id) same, head.initial.0, head.initial.1)
