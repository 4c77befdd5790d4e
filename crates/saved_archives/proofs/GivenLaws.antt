-- What a dump gives next it gives also by what its tapes are since then.
use Rattle.std.proofs.Common.{◌≡◌, ℕ, ◌≤◌, true, Some, List, take, sym, ap, subst, ◌∙◌}
use Rattle.std.specs.Prelude.{Result, Contains, find, slice_get, ◌==◌}
use Rattle.std.proofs.lemmas.Bool.{eqb-true}
use Rattle.vnode_model.specs.declared.volumes.VolumeFields.{VolumeFields}
use Rattle.budb_changes.specs.declared.records.TapePart.{TapePart}
use Rattle.budb_changes.specs.declared.records.DumpRecordFields.{DumpRecordFields}
use Rattle.budb_changes.specs.declared.records.VolRecordFields.{VolRecordFields}
use Rattle.tape_text.specs.Texts.{Fragment}
use Rattle.tape_text.specs.Wholes.{Lying}
use Rattle.tape_scan.specs.Slots.{Slot}
use Rattle.archive_model.specs.Holding.{place_of, holds, called_for, Lies}
use Rattle.archive_model.specs.Plays.{StandsOn, AllStand}
use Rattle.archive_model.specs.Archives.{Refusal, all_here}
use Rattle.archive_model.specs.Turns.{GivesNext}
use Rattle.archive_model.proofs.HoldLaws.{lies_stands_too}
use Rattle.archive_model.proofs.OnceLaws.{all_once}
use Rattle.archive_model.proofs.QuietLaws.{held_place, called_among}
use Rattle.archive_model.proofs.RecordLaws.{AreAlsoThere, all_there}
use Rattle.archive_model.proofs.SlotLaws.{find_is, stands_here}
use Rattle.saved_archives.specs.Since.{Ids, IsIn, AreSince, LiesOnce, IsHeldFor}
use Rattle.saved_archives.proofs.SinceLaws.{since_front, since_held}

module _ (which : Ids) (slots slots2 : List Slot) (since : AreSince which slots slots2) (d : DumpRecordFields) (low : IsIn which d.id) (lies : LiesOnce d slots) where
  only_now : (tape j k : ℕ) (s t : Slot) → slice_get slots2 j ≡ Some s → slice_get slots2 k ≡ Some t → holds d tape s.items ≡ true → holds d tape t.items ≡ true → j ≡ k
  only_now tape j k s t at_j at_k held_j held_k =
      let x = since j s at_j in
      let y = since k t at_k in
      lies.once tape j k x.0 y.0 x.1 y.1 (since_held which x.0.items s.items x.2 d tape low held_j) (since_held which y.0.items t.items y.2 d tape low held_k)

  both_stand : (name : List ℕ) (c : Lying) → Contains (called_for d name) c → (k : ℕ) × (s : Slot) × (slice_get slots2 k ≡ Some s) × (holds d c.tape s.items ≡ true) → (f : Fragment) × StandsOn (all_here slots) d c f × StandsOn (all_here slots2) d c f
  both_stand name c called (k, s, at, held) =
      let x = since k s at in
      let p = held_place (place_of d c.tape) d c.tape s.items held in
      let was : holds d c.tape x.0.items ≡ true = since_held which x.0.items s.items x.2 d c.tape low held in
      let number : c.tape ≡ p.0.tape = sym (eqb-true p.0.tape c.tape (find_is (λ (y : TapePart). y.tape == c.tape) d.tapes p.0 p.1).1) in
      let same : take p.0.end s.items ≡ take p.0.end x.0.items = since_front which x.0.items s.items x.2 p.0.end (x.2.ends d c.tape p.0 low (lies.lie k x.0 x.1) p.1 held) in
      let old = lies_stands_too d p.0 x.0.items s.items c same (lies.lie k x.0 x.1 c.tape p.0 p.1 was) (called_among d name c called) number in (
        old.0,
        stands_here slots d c old.0 k x.0 x.1 was (λ j t at_j held_j. lies.once c.tape j k t x.0 at_j x.1 held_j was) old.1,
        stands_here slots2 d c old.0 k s at held (λ j t at_j held_j. only_now c.tape j k t s at_j at held_j held) old.2,
      )

  pub given_stays : (contents contents2 : ℕ → List ℕ → Result VolumeFields Refusal) (name : List ℕ) (v : VolRecordFields) → IsHeldFor d name slots2 → contents2 d.id name ≡ contents d.id name → contents2 d.parent name ≡ contents d.parent name
      → GivesNext slots contents d name v → GivesNext slots2 contents2 d name v
  given_stays contents contents2 name v held own parent gives =
      let also : AreAlsoThere (all_here slots) (all_here slots2) name d (called_for d name) = λ c called. both_stand name c called (held c called) in
      let all = all_there (all_here slots) (all_here slots2) name d (called_for d name) also in
      record {
        increment = gives.increment;
        stream = record {
          fragments = gives.stream.fragments;
          stand = subst (AllStand (all_here slots2) d (called_for d name)) (all_once (all_here slots) d (called_for d name) all.0 gives.stream.fragments all.1 gives.stream.stand) all.2;
          spells = gives.stream.spells;
        };
        whole = λ none. (let w = gives.whole none in (w.0, w.1, own ∙ w.2));
        follows = λ later old is. (let f = gives.follows later old (sym parent ∙ is) in (f.0, f.1, own ∙ f.2));
        faulty = λ later r is. own ∙ gives.faulty later r (sym parent ∙ is);
      }
