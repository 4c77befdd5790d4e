-- The course of a dump keeps the archive, event by event.
use Rattle.std.proofs.Common.{◌≡◌, ℕ, zero, suc, ◌+◌, ◌<◌, ◌≤◌, Bool, true, false, Option, Some, None, List, [], ◌∷◌, ◌++◌, length, map, refl, sym, ap, subst, ◌∙◌, arith, inl, inr, length-append}
use Rattle.std.specs.Prelude.{All, Contains, slice_get, ◌==◌}
use Rattle.std.proofs.lemmas.Bool.{cases_Bool, eqb-true, eq-eqb}
use Rattle.std.proofs.lemmas.List.Elements.{Contains-push_cases}
use Rattle.cell_core.specs.declared.stored.Taken.{Taken}
use Rattle.vnode_model.specs.declared.listed.VolEntry.{VolEntry}
use Rattle.cell_core.specs.Cells.{IsCell}
use Rattle.cell_core.specs.Calls.{clone_at}
use Rattle.cell_core.specs.Fairness.{Fair, NoneIsMadeAfter, NoSourceHasBackupName}
use Rattle.budb_changes.specs.declared.records.VolRecordFields.{VolRecordFields}
use Rattle.budb_changes.specs.declared.records.DumpRecordFields.{DumpRecordFields}
use Rattle.budb_changes.specs.declared.change.Change.{Change}
use Rattle.budb_changes.specs.Bytes.{encoded}
use Rattle.budb_changes.specs.Forms.{AreChanges}
use Rattle.budb_fold.specs.Database.{after}
use Rattle.budb_fold.specs.Lookups.{record_of}
use Rattle.plant_core.specs.Crashes.{State, IsSettled}
use Rattle.plant_core.specs.Effects.{come}
use Rattle.plant_effects.proofs.States.{come_append}
use Rattle.tape_scan.specs.Slots.{Slot}
use Rattle.tape_answers.specs.Slots.{slots_of}
use Rattle.archive_model.specs.Archives.{Archive, listed_of}
use Rattle.archive_model.specs.Settled.{HoldsSettled}
use Rattle.archive_model.specs.Sources.{dumped_by}
use Rattle.archive_model.specs.Turns.{is_here}
use Rattle.archive_model.proofs.StepLaws.{read_length}
use Rattle.dump_job.specs.declared.fields.Hand.{Hand}
use Rattle.dump_job.specs.declared.fields.JobFields.{JobFields}
use Rattle.dump_job.specs.declared.fields.Phase.{Phase}
use Rattle.dump_job.specs.declared.fields.Phase.TheVariants as phase
use Rattle.dump_job.specs.declared.order.DumpOrder.{DumpOrder}
use Rattle.dump_job.specs.Beginning.{id_of}
use Rattle.dump_job.specs.Cloning.{record_with, with_hand, volumes_done}
use Rattle.dump_job.specs.Ending.{done_record}
use Rattle.dump_job.specs.Jobs.{IsAt}
use Rattle.dump_job.specs.Reels.{records_on}
use Rattle.dump_job.specs.Events.{Event, clone_by, clone_from}
use Rattle.cell_core.specs.Forms.{IsStoredForm}
use Rattle.dump_forms.specs.Forms.{AroundHasForms, HasForms, EventHasForms}
use Rattle.dump_forms.specs.Journals.{IsJournalAfter}
use Rattle.dump_forms.proofs.EventForms.{event_forms}
use Rattle.dump_forms.proofs.JournalLaws.{event_journaled}
use Rattle.dump_forms.proofs.SlotForms.{tapes_fit}
use Rattle.dump_forms.proofs.BeginForms.{frames_fit}
use Rattle.dump_laws.specs.Made.{Made}
use Rattle.dump_laws.specs.Writing.{VolumesFit}
use Rattle.dump_laws.specs.Growing.{with_dump}
use Rattle.tape_text.specs.Items.{Item}
use Rattle.dump_laws.specs.Running.{basis_of, Goes, IsOpen, CloneGoes, BeforeHead, BeforePiece, BeforeVolumeEnd, BeforePartEnd, BeforeDumpEnd, WithHand, Before, UnlessOver, RunsIn}
use Rattle.dump_laws.specs.Keeping.{Asks, MayStep, contents_behind, one_more, clone_for, clones_behind, dumps_behind, HavePut, Keeps as KeepsDump}
use Rattle.dump_laws.proofs.CloneGoes.{volumes_more}
use Rattle.dump_laws.proofs.EventLaws.{each_event}
use Rattle.dump_courses.specs.Scenes.{Scene, database_in}
use Rattle.dump_courses.specs.Courses.{Point, around, next_event, behind, Course, goes_on, last_event, event_then, events_left, course}
use Rattle.dump_courses.specs.Settled.{IsSettledFor}
use Rattle.dump_courses.proofs.CourseLaws.{event_falls, course_more, course_last}
use Rattle.dump_courses.proofs.SettledCourses.{event_settled, settled_over}
use Rattle.dump_commands.specs.Answers.{Contents, contents_with}
use Rattle.dump_archives.proofs.Clones.{HasGoodPlaces, AreFirstClones, clones_more, next_clone}
use Rattle.dump_archives.proofs.Contents.{same_contents}
use Rattle.dump_archives.proofs.Fairs.{fewer_fair, done_fair}
use Rattle.dump_archives.proofs.Fields.{Same, event_same, IsRunning, event_runs, event_cuts}
use Rattle.dump_archives.proofs.Formed.{is_formed}
use Rattle.dump_archives.proofs.Growing.{greatest_more}
use Rattle.dump_archives.proofs.Heads.{StaysUpTo, event_up, stays_then}
use Rattle.dump_archives.proofs.Lasts.{Finds, event_over}
use Rattle.dump_archives.proofs.Lengths.{IsCounted, Bounds, event_bounds}
use Rattle.dump_archives.proofs.Keeping.{archive_at, Keeps, keeps_then}
use Rattle.dump_archives.specs.Keeping.{HeadsUpTo, ComesOn}
use Rattle.dump_archives.proofs.Puts.{heads_on}
use Rattle.dump_archives.proofs.Sinces.{event_comes}
use Rattle.saved_archives.specs.Since.{ComesOf}
use Rattle.dump_archives.proofs.Slots.{ReadOnce}
use Rattle.dump_archives.proofs.Ways.{event_way, last_slots}

-- what is so unless a dump is over
while_running : (p : Phase) (X : Type 0) → IsRunning p → UnlessOver p X → X
while_running phase.Tape X run x = x
while_running phase.Clone X run x = x
while_running phase.Head X run x = x
while_running phase.Piece X run x = x
while_running phase.VolumeEnd X run x = x
while_running phase.PartEnd X run x = x
while_running phase.DumpEnd X run x = x
while_running phase.Over X run x = absurd run

-- as many clones as volumes are done
clones_count : (a : Archive) (j : JobFields) (m : Made) (o : Option Hand) → j.hand ≡ o → CloneGoes a j m o → length m.clones ≡ length (volumes_done j)
clones_count a j m None is goes = ap length goes.0.clones ∙ sym (ap (λ (o : Option Hand). length (with_hand j.head.tape o j.volumes)) is ∙ ap length goes.0.volumes)
clones_count a j m (Some h) is d =
    let done : length (volumes_done j) ≡ length (j.volumes ++ record_with j.head.tape h ∷ []) = ap (λ (o : Option Hand). length (with_hand j.head.tape o j.volumes)) is in
    let last : length m.clones ≡ length j.volumes + 1 = d.goes.streams.last in
    omega (arith, done, last, length-append j.volumes (record_with j.head.tape h ∷ []))

-- the dump's end: all volumes are done
record AllDone (a : Archive) (j : JobFields) (m : Made) : Type 0 where
  hand : Hand
  is : j.hand ≡ Some hand
  before : BeforeDumpEnd a j hand m

all_done : (a : Archive) (j : JobFields) (m : Made) (o : Option Hand) → j.hand ≡ o → WithHand (λ h. BeforeDumpEnd a j h m) o → AllDone a j m
all_done a j m None is b = absurd b
all_done a j m (Some h) is b = record { hand = h; is = is; before = b }

hit_and_miss : (b : Bool) → b ≡ true → b ≡ false → ⊥
hit_and_miss b hit miss = absurd (let e : true ≡ false = sym hit ∙ miss in cc)

-- what is so of the volume in hand
with_hand_in : (X : Hand → Type 0) (R : Type 0) (o : Option Hand) → WithHand X o → ((h : Hand) → X h → R) → R
with_hand_in X R None b each = absurd b
with_hand_in X R (Some h) b each = each h b

hand_there : (X : Hand → Type 0) (o : Option Hand) → WithHand X o → o ≡ None → ⊥
hand_there X o b none = subst (WithHand X) none b

-- the tape in hand has few records
few_at : (ph : Phase) (j : JobFields) → HasForms j → IsRunning ph → IsAt ph j → records_on j.reel + 3 ≤ 4294967295
few_at phase.Tape j forms run at = omega (arith, at.few, forms.capacity, forms.job.marks)
few_at phase.Clone j forms run at = omega (arith, at.room, forms.capacity, forms.job.marks)
few_at phase.Head j forms run at = omega (arith, at.room, forms.capacity, forms.job.marks)
few_at phase.Piece j forms run at = omega (arith, at.room, forms.capacity, forms.job.marks)
few_at phase.VolumeEnd j forms run at = omega (arith, at.room, forms.capacity, forms.job.marks)
few_at phase.PartEnd j forms run at = omega (arith, at.room, forms.capacity, forms.job.marks)
few_at phase.DumpEnd j forms run at = omega (arith, at, forms.capacity, forms.job.marks)
few_at phase.Over j forms run at = absurd run

module _ (once : ReadOnce) (s : Scene) (o : DumpOrder) (contents : Contents) (is_cell : IsCell s.cell) (stored : All IsStoredForm s.cell) (good : HasGoodPlaces s.cell o.volumes) (made : NoneIsMadeAfter o.time s.cell) (named : NoSourceHasBackupName s.cell) where
  abbrev pub its : ℕ
  its = id_of o (database_in s)

  abbrev pub grown : Contents
  grown = contents_with s o contents

  -- a dump of an id that is no greater
  abbrev pub IsLow : DumpRecordFields → Type 0
  IsLow d = d.id ≤ its

  abbrev pub slots_at : State → List Slot
  slots_at t = slots_of s.slots s.present t.tape

  -- a dump on its way, with all that it asks
  pub record Underway (p : Point) : Type 0 where
    pub archive : Archive
    pub records : List DumpRecordFields
    pub put : Made
    pub log : archive.log ≡ p.log
    pub slots : archive.slots ≡ slots_at p.state
    pub contents_are : archive.contents ≡ grown
    pub runs : RunsIn p.state archive records p.job put
    pub running : IsRunning p.job.phase
    pub forms : HasForms p.job
    pub places : p.job.places ≡ o.volumes
    pub time : p.job.time ≡ o.time
    pub parent : p.job.parent ≡ record_of (database_in s).listed o.parent
    pub id : p.job.head.id ≡ its
    pub above : p.job.head.parent ≡ o.parent
    pub clones : AreFirstClones s.cell o.time o.volumes put.clones
    pub fair : Fair s.cell (dumped_by grown records) o.time
    pub low : (d : DumpRecordFields) → Contains records d → IsLow d
    pub known : List DumpRecordFields
    pub fair_known : Fair s.cell (dumped_by grown known) o.time
    pub parent_known : (d : DumpRecordFields) → p.job.parent ≡ Some d → Contains known d
    pub heads : HeadsUpTo its (slots_at p.state)
    pub greatest : its ≤ (after p.log).greatest
    pub settled : IsSettledFor p.job p.state
    pub short : (k : ℕ) → length (p.state.tape k) ≤ 4294967295

  -- what is left behind effects
  pub record Left (log : List Change) (state : State) : Type 0 where
    pub records : List DumpRecordFields
    pub holds : HoldsSettled state (archive_at s.slots s.present grown log state.tape) records
    pub fair : Fair s.cell (dumped_by grown records) o.time
    pub heads : HeadsUpTo its (slots_at state)
    pub greatest : its ≤ (after log).greatest
    pub short : (k : ℕ) → length (state.tape k) ≤ 4294967295

  module _ (p : Point) (u : Underway p) where
    abbrev a : Archive
    a = u.archive

    abbrev j : JobFields
    j = p.job

    abbrev m : Made
    m = u.put

    abbrev e : Event
    e = next_event s p

    goes : Goes p.state a u.records j m
    goes = while_running j.phase (Goes p.state a u.records j m) u.running u.runs.goes

    around_forms : AroundHasForms (around s p)
    around_forms = record { labels = frames_fit (slots_at p.state) (tapes_fit s.slots s.present p.state.tape); cell = stored }

    forms_then : EventHasForms e
    forms_then = event_forms (around s p) j around_forms u.forms

    same : Same j e.job
    same = event_same (around s p) j

    -- ---- what the event asks

    good_here : HasGoodPlaces s.cell j.places
    good_here = subst (HasGoodPlaces s.cell) (sym u.places) good

    fair_here : Fair s.cell (dumped_by a.contents u.known) j.time
    fair_here = subst (λ (n : ℕ). Fair s.cell (dumped_by a.contents u.known) n) (sym u.time) (subst (λ (c : Contents). Fair s.cell (dumped_by c u.known) o.time) (sym u.contents_are) u.fair_known)

    clones_here : AreFirstClones s.cell j.time j.places m.clones
    clones_here = subst (λ (n : ℕ). AreFirstClones s.cell n j.places m.clones) (sym u.time) (subst (λ (ps : List ℕ). AreFirstClones s.cell o.time ps m.clones) (sym u.places) u.clones)

    asks_at : (ph : Phase) → j.phase ≡ ph → Before a j m ph → Asks a u.known (around s p) j ph
    asks_at phase.Tape at b = (let due = subst (λ (q : Phase). IsAt q j) at u.forms.job.at in due.room)
    asks_at phase.Clone at b = (let due = subst (λ (q : Phase). IsAt q j) at u.forms.job.at in next_clone (around s p) is_cell stored a u.known j m good_here u.forms fair_here u.parent_known clones_here b.hand due.left)
    asks_at phase.Head at b = tt
    asks_at phase.Piece at b = tt
    asks_at phase.VolumeEnd at b = tt
    asks_at phase.PartEnd at b = tt
    asks_at phase.DumpEnd at b = tt
    asks_at phase.Over at b = tt

    asks : Asks a u.known (around s p) j j.phase
    asks = asks_at j.phase refl u.runs.before

    may : MayStep a u.known (around s p) j
    may = record {
      listed = ap (λ (l : List Change). (after l).listed) (sym u.log);
      slots = sym u.slots;
      form = is_formed j u.forms;
      changes = forms_then.changes;
      asks = asks;
    }

    kept : KeepsDump p.state a u.records (contents_behind a j m j.phase) (clones_behind (around s p) j m j.phase) (dumps_behind u.records j j.phase) e.effects e.changes e.job
    kept = each_event p.state a u.records (around s p) j m u.runs u.known may

    -- ---- its clones and contents

    clones_at : (ph : Phase) → Before a j m ph → Asks a u.known (around s p) j ph → AreFirstClones s.cell j.time j.places (clones_behind (around s p) j m ph)
    clones_at phase.Tape b c = clones_here
    clones_at phase.Clone b c =
        let count : length m.clones ≡ length (volumes_done j) = clones_count a j m j.hand refl b.hand in
        let one : one_more m.clones (clone_for s.cell j.time (slice_get j.places (length (volumes_done j)))) ≡ m.clones ++ c.clone ∷ [] =
        ap (λ (x : Option ℕ). one_more m.clones (clone_for s.cell j.time x)) c.at ∙ ap (one_more m.clones) c.taken in
        subst (AreFirstClones s.cell j.time j.places) (sym one) (clones_more s.cell j.time j.places m.clones c.place c.clone clones_here (ap (slice_get j.places) count ∙ c.at) c.taken)
    clones_at phase.Head b c = clones_here
    clones_at phase.Piece b c = clones_here
    clones_at phase.VolumeEnd b c = clones_here
    clones_at phase.PartEnd b c = clones_here
    clones_at phase.DumpEnd b c = clones_here
    clones_at phase.Over b c = clones_here

    all_clones : AllDone a j m → length m.clones ≡ length o.volumes
    all_clones d =
        let x = d.before.hand.goes in
        omega (arith, x.streams.last, x.fits.index, d.before.all, goes.count, ap length u.places)

    parent_other : j.head.parent ≡ its → ⊥
    parent_other same = absurd (let below : j.head.parent < j.head.id = goes.parent.below in omega (arith, below, same, u.id))

    ended_contents : AllDone a j m → with_dump grown (basis_of j) m.clones ≡ grown
    ended_contents d = same_contents s o contents is_cell (basis_of j) m.clones u.id u.above parent_other u.parent u.clones (all_clones d)

    contents_at : (ph : Phase) → Before a j m ph → contents_behind a j m ph ≡ grown
    contents_at phase.Tape b = u.contents_are
    contents_at phase.Clone b = u.contents_are
    contents_at phase.Head b = u.contents_are
    contents_at phase.Piece b = u.contents_are
    contents_at phase.VolumeEnd b = u.contents_are
    contents_at phase.PartEnd b = u.contents_are
    contents_at phase.DumpEnd b = ap (λ (c : Contents). with_dump c (basis_of j) m.clones) u.contents_are ∙ ended_contents (all_done a j m j.hand refl b)
    contents_at phase.Over b = u.contents_are

    contents_then : contents_behind a j m j.phase ≡ grown
    contents_then = contents_at j.phase u.runs.before

    -- ---- it stays fair

    ended_volumes : AllDone a j m → VolumesFit grown (basis_of j) (volumes_done j) m
    ended_volumes d =
        let h : Hand = d.hand in
        let x = d.before.hand in
        let all : volumes_done j ≡ j.volumes ++ record_with j.head.tape h ∷ [] = ap (λ (y : Option Hand). with_hand j.head.tape y j.volumes) d.is in
        let fit : VolumesFit a.contents (basis_of j) (j.volumes ++ record_with j.head.tape h ∷ []) m = volumes_more a.contents (basis_of j) j.volumes j.head.tape h m goes.volumes x.goes x.over x.none in
        subst (λ (c : Contents). VolumesFit c (basis_of j) (volumes_done j) m) u.contents_are (subst (λ (vs : List VolRecordFields). VolumesFit a.contents (basis_of j) vs m) (sym all) fit)

    fair_at : (ph : Phase) → Before a j m ph → Fair s.cell (dumped_by grown (dumps_behind u.records j ph)) o.time
    fair_at phase.Tape b = u.fair
    fair_at phase.Clone b = u.fair
    fair_at phase.Head b = u.fair
    fair_at phase.Piece b = u.fair
    fair_at phase.VolumeEnd b = u.fair
    fair_at phase.PartEnd b = u.fair
    fair_at phase.DumpEnd b =
        (let d = all_done a j m j.hand refl b in
        done_fair s.cell is_cell grown (basis_of j) o.time o.volumes m u.clones (ended_contents d) made u.records (done_record j) (ended_volumes d) refl (λ e there. (goes.new e there).0) u.fair named)
    fair_at phase.Over b = u.fair

    fair_then : Fair s.cell (dumped_by grown kept.last.records) o.time
    fair_then = fewer_fair s.cell grown (dumps_behind u.records j j.phase) kept.last.records o.time (fair_at j.phase u.runs.before) kept.dumps_are

    -- ---- the archive behind it

    bytes_are : (bytes others : List ℕ) → Some bytes ≡ Some others → bytes ≡ others
    bytes_are bytes others same = cc

    log_bytes : p.state.log ≡ encoded p.log
    log_bytes = bytes_are p.state.log (encoded a.log) u.runs.held.seen.log ∙ ap encoded u.log

    log_form : AreChanges p.log
    log_form = subst AreChanges u.log u.runs.held.seen.changes

    journal : IsJournalAfter p.log e.effects (p.log ++ e.changes)
    journal = event_journaled p.log (around s p) j forms_then.changes

    low_here : (d : DumpRecordFields) → Contains u.records d → IsLow d
    low_here = u.low

    low_at : (ph : Phase) (d : DumpRecordFields) → Contains (dumps_behind u.records j ph) d → IsLow d
    low_at phase.Tape d there = low_here d there
    low_at phase.Clone d there = low_here d there
    low_at phase.Head d there = low_here d there
    low_at phase.Piece d there = low_here d there
    low_at phase.VolumeEnd d there = low_here d there
    low_at phase.PartEnd d there = low_here d there
    low_at phase.DumpEnd d there = elim (Contains-push_cases u.records (done_record j) d there) [
      | inl old ↦ low_here d old
      | inr new ↦ (let same : j.head.id ≡ d.id = ap (λ (x : DumpRecordFields). x.id) new in omega (arith, same, u.id))
    ]
    low_at phase.Over d there = low_here d there

    low_then : (d : DumpRecordFields) → Contains (dumps_behind u.records j j.phase) d → IsLow d
    low_then = low_at j.phase

    here_are : map is_here a.slots ≡ map is_here (slots_at p.state)
    here_are = ap (map is_here) u.slots

    pub way_of : Keeps s.slots s.present grown IsLow p.log p.state e.effects (p.log ++ e.changes)
    way_of =
        event_way once s.slots s.present grown IsLow p.state.tape a.slots p.state a u.records (contents_behind a j m j.phase) (clones_behind (around s p) j m j.phase) (dumps_behind u.records j j.phase) e.effects e.changes e.job kept u.contents_are contents_then refl low_here low_then here_are
        p.log (p.log ++ e.changes) (event_cuts (around s p) j) log_bytes log_form u.slots journal

    abbrev state_then : State
    state_then = come e.effects p.state

    abbrev z : Archive
    z = kept.last.archive

    slots_then : z.slots ≡ slots_at state_then
    slots_then =
        last_slots once s.slots s.present grown IsLow p.state.tape a.slots p.state a u.records (contents_behind a j m j.phase) (clones_behind (around s p) j m j.phase) (dumps_behind u.records j j.phase) e.effects e.changes e.job kept u.contents_are contents_then refl low_here low_then here_are

    log_then : z.log ≡ p.log ++ e.changes
    log_then = kept.log ∙ ap (λ (l : List Change). l ++ e.changes) u.log

    contents_now : z.contents ≡ grown
    contents_now = kept.contents_are ∙ contents_then

    archive_then : z ≡ archive_at s.slots s.present grown (p.log ++ e.changes) state_then.tape
    archive_then = λ i. record { log = log_then i; slots = slots_then i; contents = contents_now i }

    archive_here : a ≡ archive_at s.slots s.present grown p.log p.state.tape
    archive_here = λ i. record { log = u.log i; slots = u.slots i; contents = u.contents_are i }

    id_then : e.job.head.id ≡ its
    id_then = same.id ∙ u.id

    none_new : (d : DumpRecordFields) → Contains u.records d → (d.id ≡ its → ⊥) × (d.parent ≡ its → ⊥)
    none_new d there = (let none = goes.new d there in (λ is. none.0 (is ∙ sym u.id), λ is. none.1 (is ∙ sym u.id)))

    pub comes_of : ComesOn its (archive_at s.slots s.present grown p.log p.state.tape) (archive_at s.slots s.present grown (p.log ++ e.changes) state_then.tape)
    comes_of =
        subst (λ (x : Archive). ComesOn its x (archive_at s.slots s.present grown (p.log ++ e.changes) state_then.tape)) archive_here
        (subst (λ (x : Archive). ComesOn its a x) archive_then
        (event_comes p.state a u.records (contents_behind a j m j.phase) (clones_behind (around s p) j m j.phase) (dumps_behind u.records j j.phase) e.effects e.changes e.job kept its id_then u.runs.held.seen.kept none_new (u.contents_are ∙ sym contents_then)))

    put_then : HavePut its (listed_of a) a.slots z.slots
    put_then = subst (λ (n : ℕ). HavePut n (listed_of a) a.slots z.slots) id_then kept.put

    heads_then : HeadsUpTo its (slots_at state_then)
    heads_then = subst (HeadsUpTo its) slots_then (heads_on its (listed_of a) a.slots z.slots put_then (subst (HeadsUpTo its) (sym u.slots) u.heads))

    pub up_of : StaysUpTo its s.slots s.present p.state e.effects
    up_of = event_up its s.slots s.present e.effects p.state (event_cuts (around s p) j) u.heads heads_then

    greatest_then : its ≤ (after (p.log ++ e.changes)).greatest
    greatest_then = (let more = greatest_more p.log e.changes in omega (arith, u.greatest, more))

    -- ---- what is settled, and how long tapes are

    open_count : (opened : List Item) → IsOpen a j m opened → length (p.state.tape j.reel.slot) ≤ records_on j.reel
    open_count opened x =
        let read = read_length (p.state.tape j.reel.slot) x.slot.items (u.runs.held.seen.tapes j.reel.slot x.slot x.at) in
        let count = x.count in
        omega (arith, read, count)

    counted_at : (ph : Phase) → IsRunning ph → Before a j m ph → IsCounted ph j p.state
    counted_at phase.Tape run b = tt
    counted_at phase.Clone run b = open_count _ b.open_part
    counted_at phase.Head run b = with_hand_in (λ h. BeforeHead a j h m) (IsCounted phase.Head j p.state) j.hand b (λ h x. open_count _ x.open_part)
    counted_at phase.Piece run b = with_hand_in (λ h. BeforePiece a j h m) (IsCounted phase.Piece j p.state) j.hand b (λ h x. open_count _ x.fragment.open_part)
    counted_at phase.VolumeEnd run b = with_hand_in (λ h. BeforeVolumeEnd a j h m) (IsCounted phase.VolumeEnd j p.state) j.hand b (λ h x. open_count _ x.fragment.open_part)
    counted_at phase.PartEnd run b = with_hand_in (λ h. BeforePartEnd a j h m) (IsCounted phase.PartEnd j p.state) j.hand b (λ h x. open_count _ x.open_part)
    counted_at phase.DumpEnd run b = with_hand_in (λ h. BeforeDumpEnd a j h m) (IsCounted phase.DumpEnd j p.state) j.hand b (λ h x. open_count _ x.open_part)
    counted_at phase.Over run b = absurd run

    finds_at : (ph : Phase) → Before a j m ph → Asks a u.known (around s p) j ph → Finds ph (around s p) j
    finds_at phase.Tape b c = tt
    finds_at phase.Clone b c =
        ap (λ (x : Option ℕ). goes_on (clone_from s.cell x j).answer) c.at ∙ ap (λ (x : Option VolEntry). goes_on (clone_by x (clone_at s.cell c.place j.time) j).answer) c.listed
        ∙ ap (λ (x : Option Taken). goes_on (clone_by (Some c.entry) x j).answer) c.taken
    finds_at phase.Head b c = hand_there (λ h. BeforeHead a j h m) j.hand b
    finds_at phase.Piece b c = hand_there (λ h. BeforePiece a j h m) j.hand b
    finds_at phase.VolumeEnd b c = hand_there (λ h. BeforeVolumeEnd a j h m) j.hand b
    finds_at phase.PartEnd b c = tt
    finds_at phase.DumpEnd b c = tt
    finds_at phase.Over b c = tt

    settled_then : IsSettledFor e.job state_then
    settled_then = event_settled (around s p) j p.state u.settled

    pub last_settled : goes_on e.answer ≡ false → IsSettled state_then
    last_settled last = settled_over e.job state_then (event_over (around s p) j u.running (finds_at j.phase u.runs.before asks) last) settled_then

    bounds : Bounds j.reel.slot (records_on j.reel + 3) p.state e.effects
    bounds = event_bounds (around s p) j p.state (counted_at j.phase u.running u.runs.before)

    short_then : (k : ℕ) → length (state_then.tape k) ≤ 4294967295
    short_then k = elim (cases_Bool (k == j.reel.slot)) [
      | inl hit ↦
          (let same : k ≡ j.reel.slot = eqb-true k j.reel.slot hit in
          let few : records_on j.reel + 3 ≤ 4294967295 = few_at j.phase j u.forms u.running u.forms.job.at in
          let own : length (state_then.tape j.reel.slot) ≤ records_on j.reel + 3 = bounds.own in
          let here : length (state_then.tape k) ≡ length (state_then.tape j.reel.slot) = ap (λ (n : ℕ). length (state_then.tape n)) same in
          omega (arith, few, own, here))
      | inr miss ↦
          (let stays : length (state_then.tape k) ≡ length (p.state.tape k) = ap length (bounds.others k (λ same. hit_and_miss (k == j.reel.slot) (eq-eqb k j.reel.slot same) miss)) in
          let old = u.short k in
          omega (arith, stays, old))
    ]

    pub left_of : Left (p.log ++ e.changes) state_then
    left_of = record {
      records = kept.last.records;
      holds = subst (λ (x : Archive). HoldsSettled state_then x kept.last.records) archive_then kept.runs.held;
      fair = fair_then;
      heads = heads_then;
      greatest = greatest_then;
      short = short_then;
    }

    -- ---- the dump behind it

    clones_then : AreFirstClones s.cell o.time o.volumes kept.made.clones
    clones_then =
        subst (AreFirstClones s.cell o.time o.volumes) (sym kept.clones_are)
        (subst (λ (n : ℕ). AreFirstClones s.cell n o.volumes (clones_behind (around s p) j m j.phase)) u.time
        (subst (λ (ps : List ℕ). AreFirstClones s.cell j.time ps (clones_behind (around s p) j m j.phase)) u.places (clones_at j.phase u.runs.before asks)))

    pub underway : goes_on e.answer ≡ true → Underway (behind p e)
    underway more = record {
      archive = z;
      records = kept.last.records;
      put = kept.made;
      log = log_then;
      slots = slots_then;
      contents_are = contents_now;
      runs = kept.runs;
      running = event_runs (around s p) j more;
      forms = forms_then.job;
      places = same.places ∙ u.places;
      time = same.time ∙ u.time;
      parent = same.parent ∙ u.parent;
      id = id_then;
      above = same.above ∙ u.above;
      clones = clones_then;
      fair = fair_then;
      low = λ d there. low_then d (kept.dumps_are d there);
      known = u.known;
      fair_known = u.fair_known;
      parent_known = λ d is. u.parent_known d (sym same.parent ∙ is);
      heads = heads_then;
      greatest = greatest_then;
      settled = settled_then;
      short = short_then;
    }

  -- ---- the course

  abbrev pub Done : Point → Course → Type 0
  Done p c =
      Keeps s.slots s.present grown IsLow p.log p.state c.effects c.log × Left c.log (come c.effects p.state) × IsSettled (come c.effects p.state) × StaysUpTo its s.slots s.present p.state c.effects
      × ComesOn its (archive_at s.slots s.present grown p.log p.state.tape) (archive_at s.slots s.present grown c.log (come c.effects p.state).tape)

  then_done : (p : Point) (u : Underway p) (rest : Course) → Done (behind p (next_event s p)) rest → Done p (event_then (next_event s p) rest)
  then_done p u rest next =
      let e : Event = next_event s p in
      let state : come (e.effects ++ rest.effects) p.state ≡ come rest.effects (come e.effects p.state) = come_append e.effects rest.effects p.state in
      (keeps_then s.slots s.present grown IsLow e.effects rest.effects p.state p.log (p.log ++ e.changes) rest.log (way_of p u) next.0, subst (Left rest.log) (sym state) next.1, subst IsSettled (sym state) next.2, stays_then its s.slots s.present e.effects rest.effects p.state (up_of p u) next.3, λ greatest before less comes. subst (λ (t : State). ComesOf greatest before (archive_at s.slots s.present grown rest.log t.tape)) (sym state) (next.4 greatest before less (comes_of p u greatest before less comes)))

  last_done : (p : Point) (u : Underway p) → goes_on (next_event s p).answer ≡ false → Done p (last_event p (next_event s p))
  last_done p u last = (way_of p u, left_of p u, last_settled p u last, up_of p u, comes_of p u)

  within_done : (n : ℕ) (p : Point) → events_left s.cell p.job ≤ n → Underway p → Done p (course s p)
  within_done zero p few u = elim (cases_Bool (goes_on (next_event s p).answer)) [
    | inl more ↦ absurd (let less = event_falls (around s p) p.job more in omega (arith, few, less))
    | inr last ↦ subst (Done p) (sym (course_last s p last)) (last_done p u last)
  ]
  within_done (suc n) p few u = elim (cases_Bool (goes_on (next_event s p).answer)) [
    | inl more ↦
        (let less = event_falls (around s p) p.job more in
        let next : Point = behind p (next_event s p) in
        subst (Done p) (sym (course_more s p more)) (then_done p u (course s next) (within_done n next (omega (arith, few, less)) (underway p u more))))
    | inr last ↦ subst (Done p) (sym (course_last s p last)) (last_done p u last)
  ]

  -- The course of a dump that is underway keeps the archive, and leaves one.
  pub course_done : (p : Point) → Underway p → Done p (course s p)
  course_done p u = within_done (events_left s.cell p.job) p (omega arith) u
