-- A dump that is found gives over its tapes what was dumped.
use Rattle.std.proofs.Common.{◌≡◌, ℕ, Some, List, [], ◌∷◌, ◌++◌, map, refl, sym, ap, subst}
use Rattle.std.specs.Prelude.{Result, All, find}
use Rattle.std.specs.List.{flat_map}
use Rattle.bk_text.specs.Blanks.{is_same_text}
use Rattle.vnode_model.specs.declared.volumes.VolumeFields.{VolumeFields}
use Rattle.vnode_model.specs.declared.increments.IncrementFields.{IncrementFields}
use Rattle.vnode_model.specs.Limits.{AreVolume}
use Rattle.vnode_model.specs.Increments.{selected}
use Rattle.dump_stream.specs.Stream.{Spells}
use Rattle.dump_stream.specs.Written.{written}
use Rattle.dump_stream.specs.Allowed.{Allowed}
use Rattle.dump_stream.proofs.WrittenLaws.{written_spells}
use Rattle.budb_changes.specs.declared.records.VolRecordFields.{VolRecordFields}
use Rattle.budb_changes.specs.declared.records.DumpRecordFields.{DumpRecordFields}
use Rattle.tape_text.specs.Texts.{Fragment}
use Rattle.tape_text.specs.Parts.{FoundPart}
use Rattle.tape_text.specs.Wholes.{IsWhole, record_with}
use Rattle.tape_writer.specs.Filling.{Dumping, IsDumped}
use Rattle.tape_scan.specs.Slots.{Slot, Located, IsFound}
use Rattle.archive_model.specs.Holding.{called_for, placed_from}
use Rattle.archive_model.specs.Plays.{HasStream}
use Rattle.archive_model.specs.Archives.{Refusal, all_here, AreHeldOnce}
use Rattle.archive_model.specs.Turns.{GivesNext, IsClone}
use Rattle.archive_model.specs.Clones.{IsHere}
use Rattle.archive_model.proofs.FoundLaws.{map_twice, all_placed}
use Rattle.archive_model.proofs.HereLaws.{found_is_here}
use Rattle.archive_model.proofs.GivenLaws.{written_given}
use Rattle.archive_model.proofs.StillLaws.{clone_gives}

pub fragments_of_parts : (parts : List Located) → flat_map (λ (l : Located). l.found.part.fragments) parts ≡ flat_map (λ (p : FoundPart). p.part.fragments) (map (λ (l : Located). l.found) parts)
fragments_of_parts [] = refl
fragments_of_parts (l ∷ parts) = ap (λ (fs : List Fragment). l.found.part.fragments ++ fs) (fragments_of_parts parts)

given_stream : (slots : List Slot) (parts : List Located) (d : DumpRecordFields) → IsFound slots parts d → AreHeldOnce (d ∷ []) slots → (name : List ℕ) (volume : ℕ × VolRecordFields) → find (λ x. is_same_text x.1.name name) (placed_from 0 d.volumes) ≡ Some volume
    → (w : Dumping) → IsDumped d.id volume.0 (flat_map (λ (l : Located). l.found.part.fragments) parts) w → (i : IncrementFields) → Spells w.stream i → HasStream (all_here slots) d (called_for d name) i
given_stream slots [] d found once name volume named w dumped i spells = absurd found.whole.begins
given_stream slots (l ∷ ls) d found once name volume named w dumped i spells =
    let qs : List FoundPart = map (λ (x : Located). x.found) ls in
    let same : record_with l.found.part.head (l.found ∷ qs) ≡ d = (let e = found.record_is in cc) in
    let fragments : flat_map (λ (x : Located). x.found.part.fragments) (l ∷ ls) ≡ flat_map (λ (p : FoundPart). p.part.fragments) (l.found ∷ qs) = fragments_of_parts (l ∷ ls) in
    subst (λ (x : DumpRecordFields). HasStream (all_here slots) x (called_for x name) i) same
    (written_given (all_here slots) l.found qs name w i (record {
      placed = all_placed slots (l ∷ ls) found.closed;
      whole = subst IsWhole (map_twice (l ∷ ls)) found.whole;
      here = subst (λ (x : DumpRecordFields). All (IsHere (all_here slots) x) (l.found ∷ qs)) (sym same) (found_is_here slots (l ∷ ls) d found once);
      volume = volume;
      named = subst (λ (x : DumpRecordFields). find (λ y. is_same_text y.1.name name) (placed_from 0 x.volumes) ≡ Some volume) (sym same) named;
      dumped = subst (λ (fs : List Fragment). IsDumped l.found.part.head.id volume.0 fs w) fragments (subst (λ (x : DumpRecordFields). IsDumped x.id volume.0 (flat_map (λ (y : Located). y.found.part.fragments) (l ∷ ls)) w) (sym same) dumped);
    }) spells)

-- and so the clone that was dumped is what it gives next
pub dumped_gives : (slots : List Slot) (parts : List Located) (d : DumpRecordFields) → IsFound slots parts d → AreHeldOnce (d ∷ []) slots → (contents : ℕ → List ℕ → Result VolumeFields Refusal) (name : List ℕ) (volume : ℕ × VolRecordFields) → find (λ x. is_same_text x.1.name name) (placed_from 0 d.volumes) ≡ Some volume
    → (w : Dumping) → IsDumped d.id volume.0 (flat_map (λ (l : Located). l.found.part.fragments) parts) w → (clone : VolumeFields) (time : ℕ) → w.stream ≡ written (selected clone volume.1.from time) → Allowed (selected clone volume.1.from time) → AreVolume clone.vnodes
    → IsClone contents d name volume.1 clone → GivesNext slots contents d name volume.1
dumped_gives slots parts d found once contents name volume named w dumped clone time stream allowed good is =
    let spells : Spells w.stream (selected clone volume.1.from time) = subst (λ (b : List ℕ). Spells b (selected clone volume.1.from time)) (sym stream) (written_spells (selected clone volume.1.from time) allowed) in
    clone_gives slots contents d name volume.1 clone time (given_stream slots parts d found once name volume named w dumped (selected clone volume.1.from time) spells) good is
