-- The step of a part's end: the part is ended, the dump set of the next tape's old label is forgotten, and the dump goes on there.
use Rattle.std.proofs.Common.{◌≡◌, ◌⊎◌, ℕ, ◌+◌, ◌<◌, false, Some, List, [], ◌∷◌, ◌++◌, length, refl, sym, ap, ◌∙◌, arith, inl, inr}
use Rattle.std.specs.Prelude.{if◌then◌else◌, slice_get}
use Rattle.std.proofs.lemmas.List.Elements.{All-contains}
use Rattle.tape_frames.specs.declared.frame.Frame.TheVariants as frames
use Rattle.budb_changes.specs.declared.records.DumpRecordFields.{DumpRecordFields}
use Rattle.plant_core.specs.Crashes.{State}
use Rattle.plant_core.specs.Effects.{come}
use Rattle.tape_text.specs.Items.{Says, IsFitItem}
use Rattle.tape_text.specs.Texts.{Fragment, ends_dump}
use Rattle.tape_text.specs.Parts.{FoundPart}
use Rattle.tape_text.specs.Wholes.{Ends}
use Rattle.tape_scan.specs.Scans.{IsClosedIn}
use Rattle.tape_scan.specs.Slots.{Slot, Located, IsClosedAt}
use Rattle.tape_writer.specs.Puts.{puts_on}
use Rattle.archive_model.specs.Archives.{Archive}
use Rattle.archive_model.specs.Settled.{HoldsSettled, AreHeld}
use Rattle.archive_model.specs.Turns.{with_slot}
use Rattle.archive_model.proofs.JobLaws.{part_ended_holds}
use Rattle.dump_job.specs.declared.fields.JobFields.{JobFields}
use Rattle.dump_job.specs.Ending.{part_end, part_end_items}
use Rattle.dump_laws.specs.Made.{Made}
use Rattle.dump_laws.specs.Writing.{IsEnded}
use Rattle.dump_laws.specs.Running.{Goes, IsOpen}
use Rattle.dump_laws.proofs.NeighbourLaws.{ends_no_volume, ends_earlier}
use Rattle.dump_laws.proofs.PartLaws.{ended_closes, ends_there}
use Rattle.dump_laws.proofs.OwnLaws.{closed_own}
use Rattle.dump_laws.proofs.OpenPartLaws.{open_not_closed}
use Rattle.dump_laws.proofs.EndingLaws.{found_with}

-- the last fragment of a part that doesn't end its dump: it doesn't end its volume, or its volume isn't the last one
abbrev pub EndsEarly : ℕ → List Fragment → Type 0
EndsEarly volumes fs = Ends (λ f. f.end.last ≡ 0) fs ⊎ Ends (λ f. f.head.index + 1 < volumes) fs

pub early_some : (volumes : ℕ) (fs : List Fragment) → EndsEarly volumes fs → fs ≡ [] → ⊥
early_some volumes [] (inl last) none = last
early_some volumes [] (inr last) none = last
early_some volumes (f ∷ fs) early none = absurd (cc)

early_no_end : (volumes : ℕ) (fs : List Fragment) → EndsEarly volumes fs → ends_dump volumes fs ≡ false
early_no_end volumes fs (inl last) = ends_no_volume volumes fs last
early_no_end volumes fs (inr last) = ends_earlier volumes fs last

module _ (s : State) (a : Archive) (records : List DumpRecordFields) (j : JobFields) (m : Made) (g : Goes s a records j m) (o : IsOpen a j m []) (early : EndsEarly j.head.volumes m.fragments) (fit : IsFitItem (Says (frames.DumpEnd (part_end 1 j)))) where
  pub closed_there : IsClosedIn (o.slot.items ++ part_end_items 1 j) (found_with 1 j m)
  closed_there =
      let unlike : ends_dump j.head.volumes m.fragments ≡ false = early_no_end j.head.volumes m.fragments early in
      let more : 1 ≡ (if ends_dump j.head.volumes m.fragments then 0 else 1) = rw unlike refl in
      ended_closes (s.tape j.reel.slot) m.front j.head m.ended m.fragments (part_end 1 j) o.slot.items o.front o.fragments (early_some j.head.volumes m.fragments early) g.ended.number refl more fit (g.held.seen.tapes j.reel.slot o.slot o.at) o.items

  pub end_there : (found_with 1 j m).end ≡ length o.slot.items + 2
  end_there = ends_there m.front j.head m.fragments (part_end 1 j) o.slot.items o.items

  none_ends : (l : Located) → IsClosedAt a.slots l → l.found.part.head.id ≡ j.head.id → l.found.part.end.more ≡ 0 → ⊥
  none_ends l c id last = elim (closed_own a.slots m.ended j.head.id j.reel.slot j.first o.own g.closed l c id) [
    | inl old ↦
        (let goes_on : old.0.found.part.end.more ≡ 1 = (All-contains (IsEnded j.head (length m.ended)) m.ended old.0 g.ended.each old.1).more in
        let same : l.found.part.end.more ≡ old.0.found.part.end.more = ap (λ (q : FoundPart). q.part.end.more) old.2 in
        absurd (omega (arith, goes_on, same, last)))
    | inr here ↦
        (let slots : Some c.here ≡ Some o.slot = sym c.at ∙ ap (λ (n : ℕ). slice_get a.slots n) here.0 ∙ o.at in
        let same : c.here ≡ o.slot = cc in
        open_not_closed c.here.items m.front j.head m.fragments l.found (ap (λ (t : Slot). t.items) same ∙ o.items) c.closed (omega (arith, here.1, o.first)))
  ]

  pub end_held : AreHeld s (puts_on j.reel.slot (part_end_items 1 j))
      (record { archive = a; records = records } ∷ record { archive = with_slot a j.reel.slot (o.slot.items ++ Says (frames.DumpEnd (part_end 1 j)) ∷ []); records = records }
      ∷ record { archive = with_slot a j.reel.slot (o.slot.items ++ part_end_items 1 j); records = records } ∷ record { archive = with_slot a j.reel.slot (o.slot.items ++ part_end_items 1 j); records = records } ∷ [])
  unfolding puts_on
  end_held = part_ended_holds s a records g.held j.reel.slot o.slot o.at (part_end 1 j) fit (found_with 1 j m) closed_there end_there refl none_ends

  pub end_held_last : HoldsSettled (come (puts_on j.reel.slot (part_end_items 1 j)) s) (with_slot a j.reel.slot (o.slot.items ++ part_end_items 1 j)) records
  unfolding puts_on
  end_held_last = end_held.1.1.1
