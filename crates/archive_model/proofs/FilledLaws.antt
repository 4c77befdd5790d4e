-- A dump that fills tapes gives its clones.
use Rattle.std.proofs.Common.{◌≡◌, ℕ, zero, suc, ◌<◌, Some, List, [], ◌∷◌, ◌++◌, length, map, refl, sym, ap, subst, ◌∙◌, arith}
use Rattle.std.specs.Prelude.{slice_get}
use Rattle.std.specs.List.{flat_map}
use Rattle.tape_config.specs.declared.port.PortFields.{PortFields}
use Rattle.tape_frames.specs.declared.dump_head.DumpHeadFields.{DumpHeadFields}
use Rattle.budb_changes.specs.declared.records.VolRecordFields.{VolRecordFields}
use Rattle.budb_changes.specs.declared.records.DumpRecordFields.{DumpRecordFields}
use Rattle.budb_fold.specs.Lookups.{volume_of}
use Rattle.tape_text.specs.Texts.{Fragment, Part}
use Rattle.tape_text.specs.Parts.{FoundPart}
use Rattle.tape_text.specs.Wholes.{IsWhole, record_with}
use Rattle.tape_writer.specs.Filling.{Start, Dumping, IsDumped, BeginsWith, TapeText}
use Rattle.tape_scan.specs.Slots.{Slot, Located, IsFound}
use Rattle.archive_model.specs.Archives.{AreHeldOnce}
use Rattle.archive_model.specs.Sources.{IsFilled}
use Rattle.archive_model.proofs.FoundLaws.{map_twice, all_placed}
use Rattle.archive_model.proofs.WholeLaws.{whole_count}
use Rattle.archive_model.proofs.DumpedLaws.{dumped_gives}
use Rattle.archive_model.proofs.RecordedLaws.{recorded_as_dumped}

fragments_through : (parts : List Located) → flat_map (λ (p : Part). p.fragments) (map (λ (l : Located). l.found.part) parts) ≡ flat_map (λ (l : Located). l.found.part.fragments) parts
fragments_through [] = refl
fragments_through (l ∷ parts) = ap (λ (fs : List Fragment). l.found.part.fragments ++ fs) (fragments_through parts)

one_there : (ws : List Dumping) (k : ℕ) → k < length ws → (w : Dumping) × (slice_get ws k ≡ Some w)
one_there [] k lt = absurd (omega arith)
one_there (w ∷ ws) zero lt = (w, refl)
one_there (w ∷ ws) (suc k) lt = one_there ws k (omega arith)

-- what a found dump's heads and record have in common
heads_say : (slots : List Slot) (parts : List Located) (d : DumpRecordFields) (head : DumpHeadFields) → IsFound slots parts d → BeginsWith head (map (λ (l : Located). l.found.part) parts) → (head.id ≡ d.id) × (head.volumes ≡ length d.volumes)
heads_say slots [] d head found begins = absurd begins
heads_say slots (l ∷ ls) d head found begins =
    let qs : List FoundPart = map (λ (x : Located). x.found) ls in
    let same : record_with l.found.part.head (l.found ∷ qs) ≡ d = (let e = found.record_is in cc) in
    let count = whole_count l.found qs (all_placed slots (l ∷ ls) found.closed) (subst IsWhole (map_twice (l ∷ ls)) found.whole) in
    (ap (λ (h : DumpHeadFields). h.id) (sym begins) ∙ ap (λ (x : DumpRecordFields). x.id) same, ap (λ (h : DumpHeadFields). h.volumes) (sym begins) ∙ count ∙ ap (λ (x : DumpRecordFields). length x.volumes) same)

pub filled_gives : (slots : List Slot) (parts : List Located) (d : DumpRecordFields) → IsFound slots parts d → AreHeldOnce (d ∷ []) slots → (port : PortFields) (cell : List ℕ) (head : DumpHeadFields) (volumes : List Dumping) (starts : List Start)
    → TapeText port cell head volumes starts (map (λ (l : Located). l.found.part) parts) → (name : List ℕ) (v : VolRecordFields) → volume_of d name ≡ Some v → IsFilled slots d volumes name v
filled_gives slots parts d found once port cell head volumes starts text name v is =
    let place = recorded_as_dumped slots parts d found name v is in
    let says = heads_say slots parts d head found text.begins in
    let w = one_there volumes place.0 (omega (arith, place.1, says.1, text.count)) in
    let dumped : IsDumped d.id place.0 (flat_map (λ (l : Located). l.found.part.fragments) parts) w.0 =
    subst (λ (n : ℕ). IsDumped n place.0 (flat_map (λ (l : Located). l.found.part.fragments) parts) w.0) says.0 (subst (λ (fs : List Fragment). IsDumped head.id place.0 fs w.0) (fragments_through parts) (text.dumped place.0 w.0 w.1)) in
    record {
      index = place.0;
      dumping = w.0;
      at = w.1;
      fields = place.3 w.0 dumped;
      gives = λ contents clone time stream allowed good is_clone. dumped_gives slots parts d found once contents name (place.0, v) place.2 w.0 dumped clone time stream allowed good is_clone;
    }
