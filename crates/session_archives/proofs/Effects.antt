-- What each effect of a command makes of a state that holds the archive of its tapes.
use Rattle.std.proofs.Common.{◌≡◌, inr, ℕ, ◌<◌, ◌≤◌, Bool, true, Some, List, [], ◌∷◌, ◌++◌, length, map, refl, subst, ◌∙◌, arith}
use Rattle.std.specs.Prelude.{Result, Contains, slice_get}
use Rattle.vnode_model.specs.declared.volumes.VolumeFields.{VolumeFields}
use Rattle.tape_frames.specs.declared.label.LabelFields.{LabelFields}
use Rattle.tape_frames.specs.declared.frame.Frame.TheVariants as frames
use Rattle.budb_changes.specs.declared.records.DumpRecordFields.{DumpRecordFields}
use Rattle.budb_changes.specs.declared.change.Change.{Change}
use Rattle.budb_changes.specs.declared.change.Change.TheVariants.{Take, Forget, Found}
use Rattle.budb_changes.specs.Bytes.{encoded}
use Rattle.budb_changes.specs.Forms.{AreChanges}
use Rattle.budb_fold.specs.Database.{after, fits_record}
use Rattle.plant_core.specs.Records.{Record}
use Rattle.plant_core.specs.Crashes.{State, IsSettled}
use Rattle.plant_core.specs.Effects.{commits, replaces, tells, puts, settles, cuts, comes}
use Rattle.tape_text.specs.Items.{Says, Filemark, record_for, IsFitItem}
use Rattle.tape_scan.specs.Slots.{Slot}
use Rattle.tape_answers.specs.Reading.{items_of}
use Rattle.tape_answers.specs.Slots.{slot_of, slots_of}
use Rattle.archive_model.specs.Holding.{holds}
use Rattle.archive_model.specs.Archives.{Archive, Refusal, IsUnlisted}
use Rattle.archive_model.specs.Settled.{HoldsSettled, IsSettledOn}
use Rattle.archive_model.specs.Turns.{with_items, is_here, AllUntouched, StillHeld}
use Rattle.archive_model.proofs.StepLaws.{read_length, told_holds, untouched_commit, take_commit, listing_commit, replacement_holds}
use Rattle.archive_model.proofs.ForgetLaws.{forgets_commit}
use Rattle.archive_model.proofs.DumpLaws.{cut_holds_all}
use Rattle.archive_model.proofs.ExampleLaws.{label_holds}
use Rattle.archive_model.proofs.JobLaws.{slot_with}
use Rattle.archive_model.proofs.HoldLaws.{lies_within}
use Rattle.backup_session.specs.Tapes.{putting_label}
use Rattle.session_archives.proofs.Slots.{ReadOnce, slots_again, with_here, slot_there}
use Rattle.session_archives.proofs.Keeping.{archive_at, HoldsAt, Keeps}

module _ (n : ℕ) (present : ℕ → Bool) (contents : ℕ → List ℕ → Result VolumeFields Refusal) where
  -- ---- effects on the log, and what is told

  pub told_at : (s : State) (log : List Change) (text : List ℕ) → HoldsAt n present contents log s → HoldsAt n present contents log (comes (tells text) s)
  told_at s log text (records, held) = (records, told_holds s (archive_at n present contents log s.tape) records text held)

  pub untouched_at : (s : State) (log cs : List Change) → HoldsAt n present contents log s → AreChanges cs → AllUntouched cs → HoldsAt n present contents (log ++ cs) (comes (commits (encoded cs)) s)
  untouched_at s log cs (records, held) form none = (records, untouched_commit s (archive_at n present contents log s.tape) records cs held form none)

  pub forgotten_at : (s : State) (log : List Change) (ids : List ℕ) → HoldsAt n present contents log s → AreChanges (map Forget ids) → HoldsAt n present contents (log ++ map Forget ids) (comes (commits (encoded (map Forget ids))) s)
  forgotten_at s log ids (records, held) form = (_, forgets_commit s (archive_at n present contents log s.tape) records ids held form)

  pub taken_at : (s : State) (log : List Change) (initial : ℕ) → HoldsAt n present contents log s → AreChanges (Take initial ∷ []) → HoldsAt n present contents (log ++ Take initial ∷ []) (comes (commits (encoded (Take initial ∷ []))) s)
  taken_at s log initial (records, held) form = (_, take_commit s (archive_at n present contents log s.tape) records [] initial held form tt)

  pub found_at : (s : State) (log : List Change) (d : DumpRecordFields) → (held : HoldsAt n present contents log s) → AreChanges (Found d ∷ []) → fits_record d (after log).listed ≡ true
      → IsUnlisted (after log).listed (slots_of n present s.tape) d → IsSettledOn s (slots_of n present s.tape) d → HoldsAt n present contents (log ++ Found d ∷ []) (comes (commits (encoded (Found d ∷ []))) s)
  found_at s log d (records, held) form fit un settled = (records, listing_commit s (archive_at n present contents log s.tape) records (Found d) d held form (inr refl) fit un settled)

  pub replaced_at : (s : State) (log new : List Change) → HoldsAt n present contents log s → AreChanges new → (after new).listed ≡ (after log).listed → HoldsAt n present contents new (comes (replaces (encoded new)) s)
  replaced_at s log new (records, held) form same = (records, replacement_holds s (archive_at n present contents log s.tape) records new held form same)

  -- ---- all that is found whole is settled where all is

  pub settled_dump : (s : State) (log : List Change) (d : DumpRecordFields) → HoldsAt n present contents log s → IsSettled s → IsUnlisted (after log).listed (slots_of n present s.tape) d → IsSettledOn s (slots_of n present s.tape) d
  settled_dump s log d (records, held) all un k t tape p at place holds_it =
      let within : p.end ≤ length t.items = lies_within d p t.items (held.seen.kept.lie d k t (held.seen.kept.dumps.complete d (inr un)) at tape p place holds_it) in
      omega (arith, within, read_length (s.tape k) t.items (held.seen.tapes k t at), all.tapes k)

  -- ---- a tape that is labeled

  module _ (once : ReadOnce) where
    -- an archive over slots that are here as the plant's is that of its tapes
    pub seen_at : (s : State) (log : List Change) (slots : List Slot) (old : ℕ → List Record) (records : List DumpRecordFields) → map is_here slots ≡ map is_here (slots_of n present old) → HoldsSettled s (record { log = log; slots = slots; contents = contents }) records → HoldsAt n present contents log s
    seen_at s log slots old records same held =
        (records, subst (λ (x : List Slot). HoldsSettled s (record { log = log; slots = x; contents = contents }) records) (slots_again once present old s.tape n slots same held.seen.tapes) held)

    -- The tape is cut to nothing, which no listed dump is held on; the label and a mark are put, and settled.
    pub labeled_at : (s : State) (log : List Change) (k : ℕ) (a : LabelFields) → HoldsAt n present contents log s → k < n → IsFitItem (Says (frames.Label a))
        → ((d : DumpRecordFields) (tape : ℕ) → Contains (after log).listed d → holds d tape (items_of (s.tape k)) ≡ true → ⊥) → Keeps n present contents log s (putting_label k a) log
    labeled_at s log k a (records, held) below fit none =
        let slots = slots_of n present s.tape in
        let old = archive_at n present contents log s.tape in
        let t = slot_of present s.tape k in
        let at : slice_get slots k ≡ Some t = slot_there present s.tape n k below in
        let bare : Slot = record t { items = [] } in
        let cut = cut_holds_all s old records held k t at 0 (λ d tape p there place holds_it. absurd (none d tape there holds_it)) in
        let blank : Archive = record { log = log; slots = with_items k [] slots; contents = contents } in
        let s1 = comes (cuts k 0) s in
        let s2 = comes (puts k (record_for (Says (frames.Label a)))) s1 in
        let s3 = comes (puts k (record_for Filemark)) s2 in
        let s4 = comes (settles k) s3 in
        let put = label_holds s1 blank _ cut.0 k bare (slot_with k [] slots t at) a fit in
        let here = with_here k [] slots in
        let one = with_here k (Says (frames.Label a) ∷ []) (with_items k [] slots) ∙ here in
        let two = with_here k (Says (frames.Label a) ∷ Filemark ∷ []) (with_items k [] slots) ∙ here in
        let still : StillHeld (after log).listed slots (slots_of n present s1.tape) = subst (λ (x : List Slot). StillHeld (after log).listed slots x) (slots_again once present s.tape s1.tape n (with_items k [] slots) here cut.0.seen.tapes) cut.1 in (
          (records, held),
          (
            still,
            (
              seen_at s1 log (with_items k [] slots) s.tape _ here cut.0,
              (
                seen_at s2 log (with_items k (Says (frames.Label a) ∷ []) (with_items k [] slots)) s.tape _ one put.1.0,
                (
                  seen_at s3 log (with_items k (Says (frames.Label a) ∷ Filemark ∷ []) (with_items k [] slots)) s.tape _ two put.1.1.0,
                  (seen_at s4 log (with_items k (Says (frames.Label a) ∷ Filemark ∷ []) (with_items k [] slots)) s.tape _ two put.1.1.1, refl),
                ),
              ),
            ),
          ),
        )
