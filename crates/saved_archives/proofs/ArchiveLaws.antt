-- Archives that come of one another, and the one that lists again what was listed.
use Rattle.std.proofs.Common.{◌≡◌, ℕ, ◌<◌, ◌≤◌, Bool, true, false, not, Some, List, [], ◌∷◌, map, refl, sym, ap, subst, ◌∙◌, arith, inl, inr}
use Rattle.std.specs.Prelude.{Result, Contains, slice_get}
use Rattle.std.specs.List.{flat_map}
use Rattle.std.proofs.lemmas.Bool.{cases_Bool, eqb-true}
use Rattle.vnode_model.specs.declared.volumes.VolumeFields.{VolumeFields}
use Rattle.budb_changes.specs.declared.change.Change.{Change}
use Rattle.budb_changes.specs.declared.records.TapePart.{TapePart}
use Rattle.budb_changes.specs.declared.records.DumpRecordFields.{DumpRecordFields}
use Rattle.budb_changes.specs.declared.records.VolRecordFields.{VolRecordFields}
use Rattle.budb_fold.specs.Lookups.{volume_of}
use Rattle.budb_changes.specs.Bytes.{encoded}
use Rattle.budb_changes.specs.Forms.{AreChanges}
use Rattle.budb_fold.specs.Database.{is_dump, has_dump, without, after}
use Rattle.plant_core.specs.Records.{Record}
use Rattle.plant_core.specs.Stock.{Stock}
use Rattle.tape_text.specs.Items.{Read}
use Rattle.tape_text.specs.Parts.{FoundFragment, FoundPart, fragments_of}
use Rattle.tape_text.specs.Wholes.{Lying, lying_as, lying_in, IsWhole, tape_part, record_with}
use Rattle.tape_scan.specs.Slots.{Slot, Located, IsFound}
use Rattle.tape_scan.proofs.ListLaws.{contains_map, either, same_or_not}
use Rattle.archive_model.specs.Holding.{holds, called_by, called_for}
use Rattle.archive_model.specs.Clones.{part_in}
use Rattle.archive_model.specs.Archives.{Archive, Refusal, listed_of, IsKept, Holds}
use Rattle.archive_model.specs.Turns.{with_log, remaining, GivesNext}
use Rattle.archive_model.proofs.CutLaws.{any_is}
use Rattle.archive_model.proofs.FairLaws.{of_flat}
use Rattle.archive_model.proofs.FoundLaws.{map_twice, tapes_of_found, all_placed, found_held}
use Rattle.archive_model.proofs.ListedLaws.{parents_below}
use Rattle.archive_model.proofs.QuietLaws.{called_among}
use Rattle.archive_model.proofs.SlotLaws.{in_map}
use Rattle.archive_model.proofs.WholeLaws.{whole_called}
use Rattle.archive_model.proofs.WordLaws.{forgetting_keeps}
use Rattle.saved_archives.specs.Since.{AreSince, UpTo, OtherThan, with_listed, LiesOnce, IsHeldFor, AreGivenSince, ComesOf}
use Rattle.saved_archives.proofs.SinceLaws.{all_same, all_both, fewer_since}
use Rattle.saved_archives.proofs.GivenLaws.{given_stays}
use Rattle.saved_archives.proofs.JoinLaws.{found_was, joined_kept}

-- ---- dumps that are found whole

-- the tapes are held on which its fragments lie
called_held : (slots : List Slot) (parts : List Located) (d : DumpRecordFields) (c : Lying) → IsFound slots parts d → Contains (called_by d) c → (k : ℕ) × (s : Slot) × (slice_get slots k ≡ Some s) × (holds d c.tape s.items ≡ true)
called_held slots [] d c found there = absurd found.whole.begins
called_held slots (l ∷ parts) d c found there =
    let founds : List FoundPart = l.found ∷ map (λ (x : Located). x.found) parts in
    let same : record_with l.found.part.head founds ≡ d = (let e = found.record_is in cc) in
    let whole : IsWhole (map part_in founds) = subst IsWhole (map_twice (l ∷ parts)) found.whole in
    let called : called_by d ≡ flat_map lying_in founds = sym (ap called_by same) ∙ whole_called l.found (map (λ (x : Located). x.found) parts) (all_placed slots (l ∷ parts) found.closed) whole in
    let r = of_flat lying_in founds c (subst (λ (cs : List Lying). Contains cs c) called there) in
    let f = contains_map (lying_as r.0.part.head.tape) (fragments_of r.0) c r.2 in
    let number : r.0.part.head.tape ≡ c.tape = ap (λ (x : Lying). x.tape) f.2 in
    let named : Contains d.tapes (tape_part r.0) = subst (λ (ts : List TapePart). Contains ts (tape_part r.0)) (sym (tapes_of_found slots (l ∷ parts) d found)) (in_map tape_part founds r.0 r.1) in
    let h = found_held slots (l ∷ parts) d found (tape_part r.0) named in
    (h.0, h.1, h.2, subst (λ (n : ℕ). holds d n h.1.items ≡ true) number h.3)

found_held_for : (slots : List Slot) (parts : List Located) (d : DumpRecordFields) (name : List ℕ) → IsFound slots parts d → IsHeldFor d name slots
found_held_for slots parts d name found c called = called_held slots parts d c found (called_among d name c called)

module _ (listed records : List DumpRecordFields) (slots : List Slot) (contents : ℕ → List ℕ → Result VolumeFields Refusal) (kept : IsKept listed slots contents records) where
  pub found_record : (parts : List Located) (d : DumpRecordFields) → IsFound slots parts d → d.parent < d.id → Contains records d
  found_record parts d found above = elim (cases_Bool (has_dump listed d.id)) [
    | inl some ↦
        (let e = any_is (is_dump d.id) listed some in
        let same : d ≡ e.0 = kept.agree e.0 d parts e.1 found (sym (eqb-true e.0.id d.id e.2)) in
        subst (Contains records) (sym same) (kept.dumps.complete e.0 (inl e.1)))
    | inr none ↦ kept.dumps.complete d (inr (record { parts = parts; found = found; unlisted = none; above = above }))
  ]

  lies_once : (d : DumpRecordFields) → Contains records d → LiesOnce d slots
  lies_once d there = record {
    lie = λ k s at. kept.lie d k s there at;
    once = λ tape j k s t at_j at_k held_j held_k. kept.held_once d tape j k s t there at_j at_k held_j held_k;
  }

-- ---- archives that come of one another

pub comes_of_itself : (g : ℕ) (a : Archive) (listed records : List DumpRecordFields) → IsKept listed a.slots a.contents records → ((d : DumpRecordFields) → Contains records d → d.id ≤ g) → ComesOf g a a
comes_of_itself g a listed records kept low = record {
  tapes = all_same (UpTo g) a.slots;
  contents = λ id name le. refl;
  given = λ parts d name v found above lt is. absurd (omega (arith, lt, low d (found_record listed records a.slots a.contents kept parts d found above)));
}

pub comes_of_both : (g h : ℕ) (a b c : Archive) (listed records : List DumpRecordFields) → g ≤ h → IsKept listed b.slots b.contents records → ((d : DumpRecordFields) → Contains records d → d.id ≤ h) → ComesOf g a b → ComesOf h b c → ComesOf g a c
comes_of_both g h a b c listed records le kept low first next = record {
  tapes = all_both (UpTo g) a.slots b.slots c.slots first.tapes (fewer_since (UpTo h) (UpTo g) b.slots c.slots (λ id low_id. omega (arith, le, low_id)) next.tapes);
  contents = λ id name at_most. next.contents id name (omega (arith, le, at_most)) ∙ first.contents id name at_most;
  given = λ parts d name v found above lt is. elim (either h d.id) [
    | inl newer ↦ next.given parts d name v found above newer is
    | inr old ↦
        (let was : IsFound b.slots parts d = found_was (UpTo h) b.slots c.slots next.tapes parts d old found in
        given_stays (UpTo h) b.slots c.slots next.tapes d old (lies_once listed records b.slots b.contents kept d (found_record listed records b.slots b.contents kept parts d was above)) b.contents c.contents name v (found_held_for c.slots parts d name found)
        (next.contents d.id name old) (next.contents d.parent name (omega (arith, above, old))) (first.given parts d name v was above lt is))
  ];
}

-- a dump that runs leaves all of the others: those that are found have what they had, and give what they gave
pub comes_of_step : (g own : ℕ) (a b c : Archive) (listed records : List DumpRecordFields) → g < own → IsKept listed b.slots b.contents records → ((d : DumpRecordFields) → Contains records d → d.parent ≡ own → ⊥) → ComesOf g a b
    → AreSince (OtherThan own) b.slots c.slots → ((id : ℕ) (name : List ℕ) → (id ≡ own → ⊥) → c.contents id name ≡ b.contents id name)
    → ((parts : List Located) (d : DumpRecordFields) (name : List ℕ) (v : VolRecordFields) → IsFound c.slots parts d → d.parent < d.id → d.id ≡ own → volume_of d name ≡ Some v → GivesNext c.slots c.contents d name v) → ComesOf g a c
comes_of_step g own a b c listed records newer kept no_child first tapes contents gives = record {
  tapes = all_both (UpTo g) a.slots b.slots c.slots first.tapes (fewer_since (OtherThan own) (UpTo g) b.slots c.slots (λ id low_id same. omega (arith, newer, low_id, same)) tapes);
  contents = λ id name at_most. contents id name (λ same. omega (arith, newer, at_most, same)) ∙ first.contents id name at_most;
  given = λ parts d name v found above lt is. elim (same_or_not d.id own) [
    | inl same ↦ gives parts d name v found above same is
    | inr other ↦
        (let was : IsFound b.slots parts d = found_was (OtherThan own) b.slots c.slots tapes parts d other found in
        let there : Contains records d = found_record listed records b.slots b.contents kept parts d was above in
        given_stays (OtherThan own) b.slots c.slots tapes d other (lies_once listed records b.slots b.contents kept d there) b.contents c.contents name v (found_held_for c.slots parts d name found)
        (contents d.id name other) (contents d.parent name (no_child d there)) (first.given parts d name v was above lt is))
  ];
}

-- ---- what was listed is listed again

without_all : (xs : List DumpRecordFields) → without (λ d. true) xs ≡ []
without_all [] = refl
without_all (x ∷ xs) = without_all xs

-- an archive is kept where nothing of it is listed
bare_kept : (a : Archive) (records : List DumpRecordFields) → IsKept (listed_of a) a.slots a.contents records → IsKept [] a.slots a.contents (remaining [] a.slots records)
bare_kept a records kept =
    subst (λ (ds : List DumpRecordFields). IsKept ds a.slots a.contents (remaining ds a.slots records)) (without_all (listed_of a)) (forgetting_keeps (listed_of a) records a.slots a.contents kept (parents_below a.log) (λ d. true))

pub saved_kept : (g : ℕ) (a b : Archive) (records others : List DumpRecordFields) → IsKept (listed_of a) a.slots a.contents records → ((d : DumpRecordFields) → Contains records d → d.id ≤ g) → ComesOf g a b → IsKept (listed_of b) b.slots b.contents others
    → IsKept (listed_of a) b.slots b.contents (with_listed (listed_of a) (remaining [] b.slots others))
saved_kept g a b records others kept low comes later =
    joined_kept g (listed_of a) records (remaining [] b.slots others) a.slots b.slots a.contents b.contents kept low (parents_below a.log) comes.tapes (bare_kept b others later) comes.contents comes.given

pub saved_holds : (g : ℕ) (old later new : Stock) (a b : Archive) (records others : List DumpRecordFields) (log : List Change) → Holds old a records → ((d : DumpRecordFields) → Contains records d → d.id ≤ g) → ComesOf g a b → Holds later b others
    → AreChanges log → (after log).listed ≡ listed_of a → new.log ≡ Some (encoded log) → ((k : ℕ) → new.tape k ≡ later.tape k) → Holds new (with_log b log) (with_listed (listed_of a) (remaining [] b.slots others))
saved_holds g old later new a b records others log held low comes behind form listed log_is tapes = record {
  changes = form;
  log = log_is;
  tapes = λ k s at. subst (λ (rs : List Record). Read rs s.items) (sym (tapes k)) (behind.tapes k s at);
  others = λ k none. tapes k ∙ behind.others k none;
  kept = subst (λ (ds : List DumpRecordFields). IsKept ds b.slots b.contents (with_listed (listed_of a) (remaining [] b.slots others))) (sym listed) (saved_kept g a b records others held.kept low comes behind.kept);
}
