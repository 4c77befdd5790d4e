-- Each effect on a plant's state that holds an archive settled, and the archive that it holds after it.
use Rattle.std.proofs.Common.{◌≡◌, ◌⊎◌, ℕ, ◌≤◌, zero, suc, Bool, true, false, not, Some, None, List, [], ◌∷◌, ◌++◌, length, take, refl, sym, ap, subst, ◌∙◌, arith, inl, inr, length-take}
use Rattle.std.specs.Prelude.{Result, Contains, slice_get, if◌then◌else◌, ◌==◌}
use Rattle.std.proofs.lemmas.Bool.{eqb-true, eq-eqb}
use Rattle.std.proofs.lemmas.List.Concat.{flat_map-append}
use Rattle.std.proofs.lemmas.List.Elements.{Contains-push_cases}
use Rattle.vnode_model.specs.declared.volumes.VolumeFields.{VolumeFields}
use Rattle.budb_changes.specs.declared.records.TapePart.{TapePart}
use Rattle.budb_changes.specs.declared.records.DumpRecordFields.{DumpRecordFields}
use Rattle.budb_changes.specs.declared.change.Change.{Change}
use Rattle.budb_changes.specs.declared.change.Change.TheVariants.{Take, Done, Found}
use Rattle.budb_fold.specs.declared.database.Database.{Database}
use Rattle.budb_changes.specs.Bytes.{encoded, encoded_change}
use Rattle.budb_changes.specs.Forms.{IsChange, AreChanges}
use Rattle.budb_fold.specs.Database.{is_initial, without, fits_record, after, after_change, after_from, blank}
use Rattle.plant_core.specs.Crashes.{State}
use Rattle.plant_core.specs.Records.{Record}
use Rattle.tape_text.specs.Items.{Item, Read, record_for, IsFitItem}
use Rattle.tape_scan.specs.Slots.{Slot}
use Rattle.archive_model.specs.Holding.{place_of, holds, HasNoHead}
use Rattle.archive_model.specs.Archives.{Archive, Refusal, listed_of, IsUnlisted, IsKept}
use Rattle.plant_core.specs.Effects.{commits, replaces, tells, puts, settles, cuts, comes}
use Rattle.archive_model.specs.Settled.{HoldsSettled, IsSettledOn}
use Rattle.archive_model.specs.Turns.{with_items, AllUntouched, remaining}
use Rattle.archive_model.proofs.HoldLaws.{lies_within}
use Rattle.archive_model.proofs.KeepLaws.{held_before, held_uncut}
use Rattle.tape_scan.proofs.ListLaws.{All_join, of_filter}
use Rattle.archive_model.proofs.ManyTapeLaws.{differs}
use Rattle.archive_model.proofs.TornLaws.{put_reads, read_take}
use Rattle.archive_model.proofs.LogLaws.{fold_more, untouched_all, taken, done, found}
use Rattle.archive_model.proofs.ListedLaws.{parents_below}
use Rattle.archive_model.proofs.PutLaws.{with_get}
use Rattle.archive_model.proofs.WordLaws.{forgetting_keeps, listing_keeps, cutting_keeps}

pub read_length : (rs : List Record) (is : List Item) → Read rs is → length rs ≡ length is
read_length [] [] read = refl
read_length [] (i ∷ is) read = absurd read
read_length (r ∷ rs) [] read = absurd read
read_length (r ∷ rs) (i ∷ is) read = omega (arith, read_length rs is read.1)

-- ---- what is told

pub told_holds : (s : State) (a : Archive) (records : List DumpRecordFields) (text : List ℕ) → HoldsSettled s a records → HoldsSettled (comes (tells text) s) a records
told_holds s a records text held = record {
  seen = record { changes = held.seen.changes; log = held.seen.log; tapes = held.seen.tapes; others = held.seen.others; kept = held.seen.kept };
  log = held.log;
  settled = held.settled;
}

-- ---- a tape that is settled: a load, a cut at its own length, and behind a mark

settled_in : (j k n m : ℕ) (t : Bool) → (j == k) ≡ t → (j ≡ k → n ≤ m) → (l : ℕ) → n ≤ l → n ≤ (if j == k then m else l)
settled_in j k n m true same here l before = (let le : n ≤ m = here (eqb-true j k same) in rw same le)
settled_in j k n m false same here l before = rw same before

pub settling_holds : (s : State) (a : Archive) (records : List DumpRecordFields) (k : ℕ) → HoldsSettled s a records → HoldsSettled (comes (settles k) s) a records
settling_holds s a records k held = record {
  seen = record { changes = held.seen.changes; log = held.seen.log; tapes = held.seen.tapes; others = held.seen.others; kept = held.seen.kept };
  log = held.log;
  settled = λ j t d tape p at there place holds_it.
      (let within : p.end ≤ length t.items = lies_within d p t.items (held.seen.kept.lie d j t (held.seen.kept.dumps.complete d (inl there)) at tape p place holds_it) in
      settled_in j k p.end (length (s.tape j)) (j == k) refl (λ same. omega (arith, within, read_length (s.tape j) t.items (held.seen.tapes j t at))) (s.settled j) (held.settled j t d tape p at there place holds_it));
}

-- ---- commits

encoded_more : (xs ys : List Change) → encoded (xs ++ ys) ≡ encoded xs ++ encoded ys
unfolding encoded
encoded_more xs ys = flat_map-append encoded_change xs ys

bytes_are : (bytes others : List ℕ) → Some bytes ≡ Some others → bytes ≡ others
bytes_are bytes others same = cc

pub commit_holds : (s : State) (a : Archive) (records records2 : List DumpRecordFields) (cs : List Change) → HoldsSettled s a records → AreChanges cs → IsKept (after (a.log ++ cs)).listed a.slots a.contents records2
    → ((d : DumpRecordFields) → Contains (after (a.log ++ cs)).listed d → Contains (listed_of a) d ⊎ IsSettledOn s a.slots d) → HoldsSettled (comes (commits (encoded cs)) s) (record a { log = a.log ++ cs }) records2
commit_holds s a records records2 cs held form kept settled = record {
  seen = record {
    changes = All_join IsChange a.log cs held.seen.changes form;
    log = ap (λ (l : List ℕ). Some (l ++ encoded cs)) (bytes_are s.log (encoded a.log) held.seen.log) ∙ sym (ap (λ (l : List ℕ). Some l) (encoded_more a.log cs));
    tapes = held.seen.tapes;
    others = held.seen.others;
    kept = kept;
  };
  log = refl;
  settled = λ k t d tape p at there place holds_it. elim (settled d there) [
    | inl old ↦ held.settled k t d tape p at old place holds_it
    | inr new ↦ new k t tape p at place holds_it
  ];
}

listed_after : (a : Archive) (cs : List Change) → (after (a.log ++ cs)).listed ≡ (after_from cs (after a.log)).listed
listed_after a cs = ap (λ (db : Database). db.listed) (fold_more a.log cs blank)

-- changes that touch no dump: a begin, and those of sets, levels and hosts
pub untouched_commit : (s : State) (a : Archive) (records : List DumpRecordFields) (cs : List Change) → HoldsSettled s a records → AreChanges cs → AllUntouched cs → HoldsSettled (comes (commits (encoded cs)) s) (record a { log = a.log ++ cs }) records
untouched_commit s a records cs held form none =
    let same : (after (a.log ++ cs)).listed ≡ listed_of a = listed_after a cs ∙ untouched_all cs (after a.log) none in
    commit_holds s a records records cs held form (subst (λ (ds : List DumpRecordFields). IsKept ds a.slots a.contents records) (sym same) held.seen.kept) (λ d there. inl (subst (λ (ds : List DumpRecordFields). Contains ds d) same there))

-- dumps that are forgotten behind changes that touch none
pub forgetting_commit : (s : State) (a : Archive) (records : List DumpRecordFields) (cs : List Change) (is_so : DumpRecordFields → Bool) → HoldsSettled s a records → AreChanges cs → (after_from cs (after a.log)).listed ≡ without is_so (listed_of a)
    → HoldsSettled (comes (commits (encoded cs)) s) (record a { log = a.log ++ cs }) (remaining (without is_so (listed_of a)) a.slots records)
forgetting_commit s a records cs is_so held form few =
    let same : (after (a.log ++ cs)).listed ≡ without is_so (listed_of a) = listed_after a cs ∙ few in
    commit_holds s a records (remaining (without is_so (listed_of a)) a.slots records) cs held form
    (subst (λ (ds : List DumpRecordFields). IsKept ds a.slots a.contents (remaining (without is_so (listed_of a)) a.slots records)) (sym same) (forgetting_keeps (listed_of a) records a.slots a.contents held.seen.kept (parents_below a.log) is_so))
    (λ d there. inl (of_filter (λ (x : DumpRecordFields). not (is_so x)) (listed_of a) d (subst (λ (ds : List DumpRecordFields). Contains ds d) same there)).0)

pub take_commit : (s : State) (a : Archive) (records : List DumpRecordFields) (cs : List Change) (initial : ℕ) → HoldsSettled s a records → AreChanges (cs ++ Take initial ∷ []) → AllUntouched cs
    → HoldsSettled (comes (commits (encoded (cs ++ Take initial ∷ []))) s) (record a { log = a.log ++ (cs ++ Take initial ∷ []) }) (remaining (without (is_initial initial) (listed_of a)) a.slots records)
take_commit s a records cs initial held form none =
    forgetting_commit s a records (cs ++ Take initial ∷ []) (is_initial initial) held form
    (ap (λ (db : Database). db.listed) (fold_more cs (Take initial ∷ []) (after a.log)) ∙ taken initial (after_from cs (after a.log)) ∙ ap (without (is_initial initial)) (untouched_all cs (after a.log) none))

-- a dump that is found whole and lies settled is listed
pub listing_commit : (s : State) (a : Archive) (records : List DumpRecordFields) (c : Change) (d : DumpRecordFields) → HoldsSettled s a records → AreChanges (c ∷ []) → (c ≡ Done d) ⊎ (c ≡ Found d) → fits_record d (listed_of a) ≡ true → IsUnlisted (listed_of a) a.slots d → IsSettledOn s a.slots d
    → HoldsSettled (comes (commits (encoded (c ∷ []))) s) (record a { log = a.log ++ c ∷ [] }) records
listing_commit s a records c d held form is fit un settled =
    let same : (after (a.log ++ c ∷ [])).listed ≡ listed_of a ++ d ∷ [] = listed_after a (c ∷ []) ∙ lists is in
    commit_holds s a records records (c ∷ []) held form (subst (λ (ds : List DumpRecordFields). IsKept ds a.slots a.contents records) (sym same) (listing_keeps (listed_of a) records a.slots a.contents held.seen.kept d un))
    (λ e there. elim (Contains-push_cases (listed_of a) d e (subst (λ (ds : List DumpRecordFields). Contains ds e) same there)) [
      | inl old ↦ inl old
      | inr new ↦ inr (subst (IsSettledOn s a.slots) new settled)
    ])
  where
    lists : (c ≡ Done d) ⊎ (c ≡ Found d) → (after_change c (after a.log)).listed ≡ listed_of a ++ d ∷ []
    lists (inl is_done) = ap (λ (x : Change). (after_change x (after a.log)).listed) is_done ∙ done d (after a.log) fit
    lists (inr is_found) = ap (λ (x : Change). (after_change x (after a.log)).listed) is_found ∙ found d (after a.log) fit

-- the log is made another one with the same listed dumps
pub replacement_holds : (s : State) (a : Archive) (records : List DumpRecordFields) (log : List Change) → HoldsSettled s a records → AreChanges log → (after log).listed ≡ listed_of a → HoldsSettled (comes (replaces (encoded log)) s) (record a { log = log }) records
replacement_holds s a records log held form same = record {
  seen = record { changes = form; log = refl; tapes = held.seen.tapes; others = held.seen.others; kept = subst (λ (ds : List DumpRecordFields). IsKept ds a.slots a.contents records) (sym same) held.seen.kept };
  log = refl;
  settled = λ k t d tape p at there place holds_it. held.settled k t d tape p at (subst (λ (ds : List DumpRecordFields). Contains ds d) same there) place holds_it;
}

-- ---- puts

-- where no slot is with other items on one, none was
without_slot : (k : ℕ) (items : List Item) (slots : List Slot) (j : ℕ) → slice_get (with_items k items slots) j ≡ None → slice_get slots j ≡ None
without_slot k items [] j none = refl
without_slot zero items (s ∷ slots) zero none = absurd (cc)
without_slot zero items (s ∷ slots) (suc j) none = none
without_slot (suc k) items (s ∷ slots) zero none = absurd (cc)
without_slot (suc k) items (s ∷ slots) (suc j) none = without_slot k items slots j none

elsewhere : (slots : List Slot) (k j : ℕ) (t : Slot) → slice_get slots k ≡ Some t → slice_get slots j ≡ None → (j == k) ≡ false
elsewhere slots k j t at none = differs j k (λ same. absurd (let both : Some t ≡ None = sym at ∙ ap (λ (n : ℕ). slice_get slots n) (sym same) ∙ none in cc))

pub put_holds : (s : State) (a : Archive) (records records2 : List DumpRecordFields) (contents2 : ℕ → List ℕ → Result VolumeFields Refusal) (k : ℕ) (t : Slot) (i : Item) → HoldsSettled s a records → slice_get a.slots k ≡ Some t → IsFitItem i → ((d : DumpRecordFields) → Contains (listed_of a) d → HasNoHead d.id (i ∷ []))
    → IsKept (listed_of a) (with_items k (t.items ++ i ∷ []) a.slots) contents2 records2 → HoldsSettled (comes (puts k (record_for i)) s) (record { log = a.log; slots = with_items k (t.items ++ i ∷ []) a.slots; contents = contents2 }) records2
put_holds s a records records2 contents2 k t i held at fit unnamed kept = record {
  seen = record {
    changes = held.seen.changes;
    log = held.seen.log;
    tapes = λ j u at_j. elim (with_get k (t.items ++ i ∷ []) a.slots j u at_j) [
      | inl here ↦
          (let same : (j == k) ≡ true = eq-eqb j k here.0 in
          let old : Read (s.tape j) t.items = held.seen.tapes j t (ap (λ (n : ℕ). slice_get a.slots n) here.0 ∙ at) in
          subst (λ (is : List Item). Read (if j == k then s.tape j ++ record_for i ∷ [] else s.tape j) is) (sym here.1) (rw same (put_reads (s.tape j) t.items i old fit)))
      | inr other ↦ (let same : (j == k) ≡ false = differs j k other.0 in rw same (held.seen.tapes j u other.1))
    ];
    others = λ j none. (let at_none = without_slot k (t.items ++ i ∷ []) a.slots j none in rw (elsewhere a.slots k j t at at_none) (held.seen.others j at_none));
    kept = kept;
  };
  log = held.log;
  settled = λ j u d tape p at_j there place holds_it. elim (with_get k (t.items ++ i ∷ []) a.slots j u at_j) [
    | inl here ↦ held.settled j t d tape p (ap (λ (n : ℕ). slice_get a.slots n) here.0 ∙ at) there place (held_before (place_of d tape) d tape t.items (i ∷ []) (unnamed d there) (subst (λ (is : List Item). holds d tape is ≡ true) here.1 holds_it))
    | inr other ↦ held.settled j u d tape p other.1 there place holds_it
  ];
}

-- ---- cuts

pub cut_holds : (s : State) (a : Archive) (records : List DumpRecordFields) (k n : ℕ) (t : Slot) → HoldsSettled s a records → slice_get a.slots k ≡ Some t → ((d : DumpRecordFields) (tape : ℕ) (p : TapePart) → Contains (listed_of a) d → place_of d tape ≡ Some p → holds d tape (take n t.items) ≡ true → p.end ≤ n)
    → HoldsSettled (comes (cuts k n) s) (record a { slots = with_items k (take n t.items) a.slots }) (remaining (listed_of a) (with_items k (take n t.items) a.slots) records)
cut_holds s a records k n t held at behind = record {
  seen = record {
    changes = held.seen.changes;
    log = held.seen.log;
    tapes = λ j u at_j. elim (with_get k (take n t.items) a.slots j u at_j) [
      | inl here ↦
          (let same : (j == k) ≡ true = eq-eqb j k here.0 in
          let old : Read (s.tape j) t.items = held.seen.tapes j t (ap (λ (m : ℕ). slice_get a.slots m) here.0 ∙ at) in
          subst (λ (is : List Item). Read (if j == k then take n (s.tape j) else s.tape j) is) (sym here.1) (rw same (read_take n (s.tape j) t.items old)))
      | inr other ↦ (let same : (j == k) ≡ false = differs j k other.0 in rw same (held.seen.tapes j u other.1))
    ];
    others = λ j none. (let at_none = without_slot k (take n t.items) a.slots j none in rw (elsewhere a.slots k j t at at_none) (held.seen.others j at_none));
    kept = cutting_keeps (listed_of a) records a.slots a.contents held.seen.kept (parents_below a.log) k n t at behind;
  };
  log = held.log;
  settled = λ j u d tape p at_j there place holds_it. elim (with_get k (take n t.items) a.slots j u at_j) [
    | inl here ↦
        (let same : (j == k) ≡ true = eq-eqb j k here.0 in
        let at_t : slice_get a.slots j ≡ Some t = ap (λ (m : ℕ). slice_get a.slots m) here.0 ∙ at in
        let cut : holds d tape (take n t.items) ≡ true = subst (λ (is : List Item). holds d tape is ≡ true) here.1 holds_it in
        let end : p.end ≤ n = behind d tape p there place cut in
        let within : p.end ≤ length t.items = lies_within d p t.items (held.seen.kept.lie d j t (held.seen.kept.dumps.complete d (inl there)) at_t tape p place (held_uncut (place_of d tape) d tape n t.items cut)) in
        let short : p.end ≤ length (take n (s.tape j)) = omega (arith, end, within, read_length (s.tape j) t.items (held.seen.tapes j t at_t), length-take n (s.tape j)) in
        rw same short)
    | inr other ↦ (let same : (j == k) ≡ false = differs j k other.0 in rw same (held.settled j u d tape p other.1 there place holds_it))
  ];
}
