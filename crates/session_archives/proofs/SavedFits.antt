-- WHAT WAS SAVED FITS BACK on the media that there are later, whatever came since.
use Rattle.std.proofs.Common.{◌≡◌, inl, inr, ℕ, ◌+◌, ◌-◌, ◌<◌, ◌≤◌, max, Some, List, [], ◌∷◌, ◌++◌, sym, ap, subst, ◌∙◌, arith}
use Rattle.std.specs.Prelude.{Contains, slice_get}
use Rattle.std.proofs.lemmas.List.Elements.{All-append}
use Rattle.cell_core.specs.Fairness.{Fair}
use Rattle.tape_frames.specs.declared.frame.Frame.TheVariants as frames
use Rattle.tape_frames.specs.declared.dump_head.DumpHeadFields.{DumpHeadFields}
use Rattle.plant_core.specs.Records.{Record}
use Rattle.plant_core.specs.Crashes.{State, IsSettled, seen_in}
use Rattle.plant_core.specs.Effects.{commits, come}
use Rattle.tape_text.specs.Items.{Says}
use Rattle.tape_scan.specs.Slots.{Slot}
use Rattle.tape_answers.specs.Slots.{slots_of}
use Rattle.budb.proofs.FoldForms.{forms_after, checkpoint_form}
use Rattle.budb.proofs.Keeping.{encoded_more}
use Rattle.budb_changes.specs.declared.records.DumpRecordFields.{DumpRecordFields}
use Rattle.budb_changes.specs.declared.change.Change.{Change}
use Rattle.budb_changes.specs.Bytes.{encoded}
use Rattle.budb_changes.specs.Forms.{IsChange, AreChanges}
use Rattle.budb_fold.specs.declared.database.Database.{Database}
use Rattle.budb_fold.specs.Database.{after, blank}
use Rattle.budb_fold.proofs.FoldKeeps.{kept_after}
use Rattle.budb_save.proofs.BackLaws.{comes_back}
use Rattle.archive_model.specs.Archives.{Archive, listed_of, AreDumps, Holds}
use Rattle.archive_model.specs.Settled.{HoldsSettled}
use Rattle.archive_model.specs.Sources.{dumped_by}
use Rattle.archive_model.specs.Turns.{with_log, remaining}
use Rattle.archive_model.proofs.DumpLaws.{rest_holds}
use Rattle.archive_model.proofs.GrowLaws.{ids_below}
use Rattle.archive_model.proofs.LogLaws.{fold_more}
use Rattle.saved_archives.specs.Since.{ComesOf, with_listed}
use Rattle.saved_archives.proofs.ArchiveLaws.{comes_of_itself, saved_holds}
use Rattle.dump_archives.specs.Keeping.{IsKnownId}
use Rattle.dump_archives.proofs.Answers.{within_two}
use Rattle.backup_session.specs.Worlds.{World, Setting, archive_of}
use Rattle.backup_session.specs.Saves.{time_back}
use Rattle.backup_session.proofs.Settling.{settled_commit}
use Rattle.session_archives.specs.Held.{HoldsWorld}
use Rattle.session_archives.specs.Ready.{FitsBack}
use Rattle.session_archives.specs.Since.{CameSince, HasItsMedia, KnowsHeads, saved_of}
use Rattle.session_archives.proofs.Orders.{fair_to_any}

-- the greatest id that is known
abbrev top_of : ℕ → ℕ → ℕ
top_of time greatest = max greatest (time - 1)

top_known : (time greatest : ℕ) → IsKnownId time greatest (top_of time greatest)
top_known time greatest = within_two (top_of time greatest) time greatest (omega arith)

heads_under : (slots : List Slot) (time greatest : ℕ) → ((k : ℕ) (s : Slot) (n : ℕ) (h : DumpHeadFields) → slice_get slots k ≡ Some s → slice_get s.items n ≡ Some (Says (frames.DumpHead h)) → IsKnownId time greatest h.id)
    → (k : ℕ) (s : Slot) (n : ℕ) (h : DumpHeadFields) → slice_get slots k ≡ Some s → slice_get s.items n ≡ Some (Says (frames.DumpHead h)) → h.id < top_of time greatest + 1
heads_under slots time greatest heads k s n h at is = elim (heads k s n h at is) [
  | inl le ↦ omega (arith, le)
  | inr lt ↦ omega (arith, lt)
]

module _ (w u v : World) (held : HoldsWorld w) (heads : KnowsHeads w) (came : CameSince w u) (later : HoldsWorld u) (media : HasItsMedia u v) where
  abbrev top : ℕ
  top = top_of w.time (after w.log).greatest

  low : (d : DumpRecordFields) → Contains held.records d → d.id ≤ top
  low d there =
      (let less : d.id < top + 1 = ids_below (seen_in w.state) (archive_of w) held.records (top + 1) held.holds.seen (heads_under (archive_of w).slots w.time (after w.log).greatest heads) (omega arith) d there in omega (arith, less))

  comes : ComesOf top (archive_of w) (archive_of u)
  comes = came.comes top (archive_of w) (top_known w.time (after w.log).greatest) (comes_of_itself top (archive_of w) (listed_of (archive_of w)) held.records held.holds.seen.kept low)

  abbrev changes : List Change
  changes = saved_of w

  abbrev all_changes : List Change
  all_changes = v.log ++ changes

  form : AreChanges all_changes
  form = All-append IsChange v.log changes media.changes (checkpoint_form (after w.log) (forms_after w.log held.holds.seen.changes))

  listed : (after all_changes).listed ≡ (after w.log).listed
  listed = ap (λ (db : Database). db.listed) (fold_more v.log changes blank) ∙ (comes_back (after w.log) (kept_after w.log) (after v.log) media.unused).listed

  abbrev state_then : State
  state_then = come (commits (encoded changes) ∷ []) v.state

  bytes : v.state.log ++ encoded changes ≡ encoded all_changes
  bytes = ap (λ (l : List ℕ). l ++ encoded changes) media.log ∙ sym (encoded_more v.log changes)

  -- those that were listed then, and those that came since and are found whole
  abbrev pub records : List DumpRecordFields
  records = with_listed (after w.log).listed (remaining [] (archive_of u).slots later.records)

  abbrev its_archive : Archive
  its_archive = record (archive_of v) { log = all_changes }

  slots_same : (archive_of u).slots ≡ (archive_of v).slots
  slots_same =
      let tapes : u.state.tape ≡ v.state.tape = λ i. λ k. sym (media.tapes k) i in
      ap (λ (x : Setting). slots_of x.slots x.present u.state.tape) (sym media.setting) ∙ ap (λ (tape : ℕ → List Record). slots_of v.setting.slots v.setting.present tape) tapes

  same : with_log (archive_of u) all_changes ≡ its_archive
  same = λ i. record { log = all_changes; slots = slots_same i; contents = sym media.contents i }

  seen : Holds (seen_in state_then) (with_log (archive_of u) all_changes) records
  seen = saved_holds top (seen_in w.state) (seen_in u.state) (seen_in state_then) (archive_of w) (archive_of u) held.records later.records all_changes held.holds.seen low comes later.holds.seen form listed (ap Some bytes) media.tapes

  pub saved_held : HoldsSettled state_then its_archive records
  saved_held =
      let rest : IsSettled state_then = settled_commit (encoded changes) v.state media.settled in
      rest_holds state_then its_archive records (subst (λ (x : Archive). Holds (seen_in state_then) x records) same seen) rest.log rest.tapes

  -- and the cell is fair to all dumps that there are then where it is so to one list of them
  pub saved_fits : (dumps : List DumpRecordFields) → AreDumps (after w.log).listed (archive_of v).slots dumps → Fair v.cell (dumped_by v.contents dumps) (time_back v changes) → FitsBack v changes
  saved_fits dumps are fair = record {
    records = records;
    holds = saved_held;
    fair = λ others its.
        fair_to_any v.cell (time_back v changes) its_archive dumps others (subst (λ (l : List DumpRecordFields). AreDumps l (archive_of v).slots dumps) (sym listed) are) its.sound fair;
  }
