-- One of several dumps that run makes its step.
use Rattle.std.proofs.Common.{◌≡◌, ◌⊎◌, ℕ, zero, suc, ◌+◌, ◌<◌, ◌≤◌, Bool, true, false, Option, Some, None, List, [], ◌∷◌, ◌++◌, length, map, refl, sym, ap, subst, ◌∙◌, arith, inl, inr, length-append}
use Rattle.std.specs.Prelude.{if◌then◌else◌, All, Contains, slice_get, ◌==◌}
use Rattle.std.proofs.lemmas.Bool.{cases_Bool, eqb-true, eq-eqb}
use Rattle.std.proofs.lemmas.List.Elements.{Contains-push_cases}
use Rattle.cell_core.specs.declared.stored.Taken.{Taken}
use Rattle.vnode_model.specs.declared.listed.VolEntry.{VolEntry}
use Rattle.cell_core.specs.Cells.{IsCell}
use Rattle.cell_core.specs.Calls.{clone_at}
use Rattle.cell_core.specs.Fairness.{Fair, NoneIsMadeAfter, NoSourceHasBackupName}
use Rattle.budb_changes.specs.declared.records.VolRecordFields.{VolRecordFields}
use Rattle.budb_changes.specs.declared.records.DumpRecordFields.{DumpRecordFields}
use Rattle.budb_changes.specs.declared.change.Change.{Change}
use Rattle.budb_changes.specs.Bytes.{encoded}
use Rattle.budb_changes.specs.Forms.{AreChanges}
use Rattle.budb_fold.specs.Database.{after}
use Rattle.plant_core.specs.Crashes.{State}
use Rattle.plant_core.specs.Effects.{come}
use Rattle.tape_text.specs.Items.{Item}
use Rattle.tape_scan.specs.Slots.{Slot}
use Rattle.tape_answers.specs.Slots.{slots_of}
use Rattle.archive_model.specs.Archives.{Archive, listed_of}
use Rattle.archive_model.specs.Settled.{HoldsSettled}
use Rattle.archive_model.specs.Sources.{dumped_by}
use Rattle.archive_model.specs.Turns.{is_here}
use Rattle.archive_model.proofs.StepLaws.{read_length}
use Rattle.dump_job.specs.declared.fields.Hand.{Hand}
use Rattle.dump_job.specs.declared.fields.JobFields.{JobFields}
use Rattle.dump_job.specs.declared.fields.Phase.{Phase}
use Rattle.dump_job.specs.declared.fields.Phase.TheVariants as phase
use Rattle.dump_job.specs.Cloning.{record_with, with_hand, volumes_done}
use Rattle.dump_job.specs.Ending.{done_record}
use Rattle.dump_job.specs.Jobs.{IsAt}
use Rattle.dump_job.specs.Reels.{records_on}
use Rattle.dump_job.specs.Closing.{is_too_long, done_changes, dump_ended}
use Rattle.dump_job.specs.Events.{Around, Event, clone_by, clone_from, event_by, event}
use Rattle.cell_core.specs.Forms.{IsStoredForm}
use Rattle.dump_forms.specs.Forms.{AroundHasForms, HasForms, EventHasForms}
use Rattle.dump_forms.specs.Journals.{IsJournalAfter}
use Rattle.dump_forms.proofs.EventForms.{event_forms}
use Rattle.dump_forms.proofs.JournalLaws.{event_journaled}
use Rattle.dump_forms.proofs.SlotForms.{tapes_fit}
use Rattle.dump_forms.proofs.BeginForms.{frames_fit}
use Rattle.dump_laws.specs.Made.{Made, Basis}
use Rattle.dump_laws.specs.Writing.{VolumesFit}
use Rattle.dump_laws.specs.Growing.{with_dump}
use Rattle.dump_laws.specs.Running.{basis_of, Goes, IsOpen, CloneGoes, BeforeHead, BeforePiece, BeforeVolumeEnd, BeforePartEnd, BeforeDumpEnd, WithHand, Before, UnlessOver, RunsIn}
use Rattle.dump_laws.specs.Keeping.{Asks, MayStep, contents_behind, one_more, clone_for, clones_behind, dumps_behind, HavePut, Keeps as KeepsDump}
use Rattle.dump_laws.proofs.CloneGoes.{volumes_more}
use Rattle.dump_laws.proofs.EventLaws.{each_event}
use Rattle.dump_courses.specs.Scenes.{Scene}
use Rattle.dump_courses.specs.Courses.{Point, around, next_event, goes_on}
use Rattle.dump_commands.specs.Answers.{Contents}
use Rattle.dump_archives.specs.Keeping.{HeadsUpTo}
use Rattle.dump_archives.proofs.Clones.{HasGoodPlaces, AreFirstClones, clones_more, next_clone}
use Rattle.dump_archives.proofs.Fairs.{fewer_fair, done_fair}
use Rattle.dump_archives.proofs.Fields.{IsRunning, event_runs, event_cuts, event_same as fields_same}
use Rattle.dump_archives.proofs.Formed.{is_formed}
use Rattle.dump_archives.proofs.Heads.{StaysUpTo, event_up}
use Rattle.dump_archives.proofs.Lasts.{Finds}
use Rattle.dump_archives.proofs.Lengths.{IsCounted, Bounds, event_bounds}
use Rattle.dump_archives.proofs.Keeping.{archive_at, Keeps}
use Rattle.dump_archives.proofs.Slots.{ReadOnce}
use Rattle.dump_archives.proofs.Ways.{event_way, last_slots}
use Rattle.pool_laws.specs.Underway.{IsGrown, IsUnderway, StandsAt}
use Rattle.pool_laws.proofs.Fields.{event_same}
use Rattle.pool_laws.proofs.Heads.{heads_on}

-- ---- what is so of a dump by its phase

pub while_running : (p : Phase) (X : Type 0) → IsRunning p → UnlessOver p X → X
while_running phase.Tape X run x = x
while_running phase.Clone X run x = x
while_running phase.Head X run x = x
while_running phase.Piece X run x = x
while_running phase.VolumeEnd X run x = x
while_running phase.PartEnd X run x = x
while_running phase.DumpEnd X run x = x
while_running phase.Over X run x = absurd run

clones_count : (a : Archive) (j : JobFields) (m : Made) (o : Option Hand) → j.hand ≡ o → CloneGoes a j m o → length m.clones ≡ length (volumes_done j)
clones_count a j m None is goes = ap length goes.0.clones ∙ sym (ap (λ (o : Option Hand). length (with_hand j.head.tape o j.volumes)) is ∙ ap length goes.0.volumes)
clones_count a j m (Some h) is d =
    let done : length (volumes_done j) ≡ length (j.volumes ++ record_with j.head.tape h ∷ []) = ap (λ (o : Option Hand). length (with_hand j.head.tape o j.volumes)) is in
    let last : length m.clones ≡ length j.volumes + 1 = d.goes.streams.last in
    omega (arith, done, last, length-append j.volumes (record_with j.head.tape h ∷ []))

-- the dump's end: all volumes are done
record AllDone (a : Archive) (j : JobFields) (m : Made) : Type 0 where
  hand : Hand
  is : j.hand ≡ Some hand
  before : BeforeDumpEnd a j hand m

all_done : (a : Archive) (j : JobFields) (m : Made) (o : Option Hand) → j.hand ≡ o → WithHand (λ h. BeforeDumpEnd a j h m) o → AllDone a j m
all_done a j m None is b = absurd b
all_done a j m (Some h) is b = record { hand = h; is = is; before = b }

hit_and_miss : (b : Bool) → b ≡ true → b ≡ false → ⊥
hit_and_miss b hit miss = absurd (let e : true ≡ false = sym hit ∙ miss in cc)

with_hand_in : (X : Hand → Type 0) (R : Type 0) (o : Option Hand) → WithHand X o → ((h : Hand) → X h → R) → R
with_hand_in X R None b each = absurd b
with_hand_in X R (Some h) b each = each h b

hand_there : (X : Hand → Type 0) (o : Option Hand) → WithHand X o → o ≡ None → ⊥
hand_there X o b none = subst (WithHand X) none b

few_at : (ph : Phase) (j : JobFields) → HasForms j → IsRunning ph → IsAt ph j → records_on j.reel + 3 ≤ 4294967295
few_at phase.Tape j forms run at = omega (arith, at.few, forms.capacity, forms.job.marks)
few_at phase.Clone j forms run at = omega (arith, at.room, forms.capacity, forms.job.marks)
few_at phase.Head j forms run at = omega (arith, at.room, forms.capacity, forms.job.marks)
few_at phase.Piece j forms run at = omega (arith, at.room, forms.capacity, forms.job.marks)
few_at phase.VolumeEnd j forms run at = omega (arith, at.room, forms.capacity, forms.job.marks)
few_at phase.PartEnd j forms run at = omega (arith, at.room, forms.capacity, forms.job.marks)
few_at phase.DumpEnd j forms run at = omega (arith, at, forms.capacity, forms.job.marks)
few_at phase.Over j forms run at = absurd run

in_front : (ds : List DumpRecordFields) (e d : DumpRecordFields) → Contains ds d → Contains (ds ++ e ∷ []) d
in_front [] e d there = absurd (omega (arith, there.1))
in_front (x ∷ ds) e d (zero, within, is) = (0, omega arith, is)
in_front (x ∷ ds) e d (suc n, within, is) = (let rest = in_front ds e d (n, omega (arith, within), is) in (suc rest.0, omega (arith, rest.1), rest.2))

in_last : (ds : List DumpRecordFields) (e : DumpRecordFields) → Contains (ds ++ e ∷ []) e
in_last [] e = (0, omega arith, refl)
in_last (x ∷ ds) e = (let rest = in_last ds e in (suc rest.0, omega (arith, rest.1), rest.2))

over_ends : (long : Bool) (j : JobFields) → IsRunning (if long then dump_ended j else dump_ended j).phase → ⊥
over_ends true j run = run
over_ends false j run = run

module _ (once : ReadOnce) (s : Scene) (time top : ℕ) (grown : Contents) (is_cell : IsCell s.cell) (stored : All IsStoredForm s.cell) (made : NoneIsMadeAfter time s.cell) (named : NoSourceHasBackupName s.cell) where
  abbrev slots_at : State → List Slot
  slots_at t = slots_of s.slots s.present t.tape

  abbrev IsLow : DumpRecordFields → Type 0
  IsLow d = d.id ≤ top

  module _ (log : List Change) (t : State) (a : Archive) (records known : List DumpRecordFields) (st : StandsAt s time top grown log t a records known) (j : JobFields) (m : Made) (u : IsUnderway s time top grown t a records known j m) where
    abbrev pub its_point : Point
    its_point = record { log = log; state = t; job = j }

    abbrev pub its_around : Around
    its_around = around s its_point

    abbrev pub e : Event
    e = event its_around j

    goes : Goes t a records j m
    goes = while_running j.phase (Goes t a records j m) u.running u.runs.goes

    around_forms : AroundHasForms its_around
    around_forms = record { labels = frames_fit (slots_at t) (tapes_fit s.slots s.present t.tape); cell = stored }

    forms_then : EventHasForms e
    forms_then = event_forms its_around j around_forms u.forms

    -- ---- what the event asks

    fair_here : Fair its_around.cell (dumped_by a.contents known) j.time
    fair_here = subst (λ (n : ℕ). Fair s.cell (dumped_by a.contents known) n) (sym u.time_is) (subst (λ (c : Contents). Fair s.cell (dumped_by c known) time) (sym st.contents_are) st.fair)

    clones_here : AreFirstClones s.cell j.time j.places m.clones
    clones_here = subst (λ (n : ℕ). AreFirstClones s.cell n j.places m.clones) (sym u.time_is) u.clones

    asks_at : (ph : Phase) → j.phase ≡ ph → Before a j m ph → Asks a known its_around j ph
    asks_at phase.Tape at b = (let due = subst (λ (q : Phase). IsAt q j) at u.forms.job.at in due.room)
    asks_at phase.Clone at b = (let due = subst (λ (q : Phase). IsAt q j) at u.forms.job.at in next_clone its_around is_cell stored a known j m u.good u.forms fair_here u.parent_known clones_here b.hand due.left)
    asks_at phase.Head at b = tt
    asks_at phase.Piece at b = tt
    asks_at phase.VolumeEnd at b = tt
    asks_at phase.PartEnd at b = tt
    asks_at phase.DumpEnd at b = tt
    asks_at phase.Over at b = tt

    asks : Asks a known its_around j j.phase
    asks = asks_at j.phase refl u.runs.before

    may : MayStep a known its_around j
    may = record {
      listed = ap (λ (l : List Change). (after l).listed) (sym st.log_is);
      slots = sym st.slots;
      form = is_formed j u.forms;
      changes = forms_then.changes;
      asks = asks;
    }

    pub kept : KeepsDump t a records (contents_behind a j m j.phase) (clones_behind its_around j m j.phase) (dumps_behind records j j.phase) e.effects e.changes e.job
    kept = each_event t a records its_around j m u.runs known may

    -- ---- its clones and contents

    clones_at : (ph : Phase) → Before a j m ph → Asks a known its_around j ph → AreFirstClones s.cell j.time j.places (clones_behind its_around j m ph)
    clones_at phase.Tape b c = clones_here
    clones_at phase.Clone b c =
        let count : length m.clones ≡ length (volumes_done j) = clones_count a j m j.hand refl b.hand in
        let one : one_more m.clones (clone_for s.cell j.time (slice_get j.places (length (volumes_done j)))) ≡ m.clones ++ c.clone ∷ [] =
        ap (λ (x : Option ℕ). one_more m.clones (clone_for s.cell j.time x)) c.at ∙ ap (one_more m.clones) c.taken in
        subst (AreFirstClones s.cell j.time j.places) (sym one) (clones_more s.cell j.time j.places m.clones c.place c.clone clones_here (ap (slice_get j.places) count ∙ c.at) c.taken)
    clones_at phase.Head b c = clones_here
    clones_at phase.Piece b c = clones_here
    clones_at phase.VolumeEnd b c = clones_here
    clones_at phase.PartEnd b c = clones_here
    clones_at phase.DumpEnd b c = clones_here
    clones_at phase.Over b c = clones_here

    all_clones : AllDone a j m → length m.clones ≡ length j.places
    all_clones d =
        let x = d.before.hand.goes in
        omega (arith, x.streams.last, x.fits.index, d.before.all, goes.count)

    ended_contents : AllDone a j m → with_dump grown (basis_of j) m.clones ≡ grown
    ended_contents d = u.is_grown m.clones u.clones (all_clones d)

    contents_at : (ph : Phase) → Before a j m ph → contents_behind a j m ph ≡ grown
    contents_at phase.Tape b = st.contents_are
    contents_at phase.Clone b = st.contents_are
    contents_at phase.Head b = st.contents_are
    contents_at phase.Piece b = st.contents_are
    contents_at phase.VolumeEnd b = st.contents_are
    contents_at phase.PartEnd b = st.contents_are
    contents_at phase.DumpEnd b = ap (λ (c : Contents). with_dump c (basis_of j) m.clones) st.contents_are ∙ ended_contents (all_done a j m j.hand refl b)
    contents_at phase.Over b = st.contents_are

    pub contents_then : contents_behind a j m j.phase ≡ grown
    contents_then = contents_at j.phase u.runs.before

    -- ---- it stays fair

    ended_volumes : AllDone a j m → VolumesFit grown (basis_of j) (volumes_done j) m
    ended_volumes d =
        let h : Hand = d.hand in
        let x = d.before.hand in
        let all : volumes_done j ≡ j.volumes ++ record_with j.head.tape h ∷ [] = ap (λ (y : Option Hand). with_hand j.head.tape y j.volumes) d.is in
        let fit : VolumesFit a.contents (basis_of j) (j.volumes ++ record_with j.head.tape h ∷ []) m = volumes_more a.contents (basis_of j) j.volumes j.head.tape h m goes.volumes x.goes x.over x.none in
        subst (λ (c : Contents). VolumesFit c (basis_of j) (volumes_done j) m) st.contents_are (subst (λ (vs : List VolRecordFields). VolumesFit a.contents (basis_of j) vs m) (sym all) fit)

    fair_at : (ph : Phase) → Before a j m ph → Fair s.cell (dumped_by grown (dumps_behind known j ph)) time
    fair_at phase.Tape b = st.fair
    fair_at phase.Clone b = st.fair
    fair_at phase.Head b = st.fair
    fair_at phase.Piece b = st.fair
    fair_at phase.VolumeEnd b = st.fair
    fair_at phase.PartEnd b = st.fair
    fair_at phase.DumpEnd b =
        (let d = all_done a j m j.hand refl b in
        done_fair s.cell is_cell grown (basis_of j) time j.places m u.clones (ended_contents d) made known (done_record j) (ended_volumes d) refl u.new st.fair named)
    fair_at phase.Over b = st.fair

    -- all dumps that there were, and the one that is ended
    abbrev pub known_then : List DumpRecordFields
    known_then = dumps_behind known j j.phase

    known_cases : (ph : Phase) (ds : List DumpRecordFields) (d : DumpRecordFields) → Contains (dumps_behind ds j ph) d → Contains ds d ⊎ (done_record j ≡ d)
    known_cases phase.Tape ds d there = inl there
    known_cases phase.Clone ds d there = inl there
    known_cases phase.Head ds d there = inl there
    known_cases phase.Piece ds d there = inl there
    known_cases phase.VolumeEnd ds d there = inl there
    known_cases phase.PartEnd ds d there = inl there
    known_cases phase.DumpEnd ds d there = Contains-push_cases ds (done_record j) d there
    known_cases phase.Over ds d there = inl there

    pub known_is : (d : DumpRecordFields) → Contains known_then d → Contains known d ⊎ (done_record j ≡ d)
    known_is d there = known_cases j.phase known d there

    among_at : (ph : Phase) (xs ys : List DumpRecordFields) → ((d : DumpRecordFields) → Contains xs d → Contains ys d) → (d : DumpRecordFields) → Contains (dumps_behind xs j ph) d → Contains (dumps_behind ys j ph) d
    among_at phase.Tape xs ys among d there = among d there
    among_at phase.Clone xs ys among d there = among d there
    among_at phase.Head xs ys among d there = among d there
    among_at phase.Piece xs ys among d there = among d there
    among_at phase.VolumeEnd xs ys among d there = among d there
    among_at phase.PartEnd xs ys among d there = among d there
    among_at phase.DumpEnd xs ys among d there = elim (Contains-push_cases xs (done_record j) d there) [
      | inl old ↦ in_front ys (done_record j) d (among d old)
      | inr new ↦ subst (Contains (ys ++ done_record j ∷ [])) new (in_last ys (done_record j))
    ]
    among_at phase.Over xs ys among d there = among d there

    self_at : (ph : Phase) (xs : List DumpRecordFields) (d : DumpRecordFields) → Contains xs d → Contains (dumps_behind xs j ph) d
    self_at phase.Tape xs d there = there
    self_at phase.Clone xs d there = there
    self_at phase.Head xs d there = there
    self_at phase.Piece xs d there = there
    self_at phase.VolumeEnd xs d there = there
    self_at phase.PartEnd xs d there = there
    self_at phase.DumpEnd xs d there = in_front xs (done_record j) d there
    self_at phase.Over xs d there = there

    pub known_more : (d : DumpRecordFields) → Contains known d → Contains known_then d
    known_more = self_at j.phase known

    -- ---- the archive behind it

    bytes_are : (bytes others : List ℕ) → Some bytes ≡ Some others → bytes ≡ others
    bytes_are bytes others same = cc

    log_bytes : t.log ≡ encoded log
    log_bytes = bytes_are t.log (encoded a.log) st.held.seen.log ∙ ap encoded st.log_is

    log_form : AreChanges log
    log_form = subst AreChanges st.log_is st.held.seen.changes

    journal : IsJournalAfter log e.effects (log ++ e.changes)
    journal = event_journaled log its_around j forms_then.changes

    low_here : (d : DumpRecordFields) → Contains records d → IsLow d
    low_here d there = st.low d (st.all_known d there)

    low_then : (d : DumpRecordFields) → Contains (dumps_behind records j j.phase) d → IsLow d
    low_then d there = elim (known_cases j.phase records d there) [
      | inl old ↦ low_here d old
      | inr new ↦ subst IsLow new u.low
    ]

    here_are : map is_here a.slots ≡ map is_here (slots_at t)
    here_are = ap (map is_here) st.slots

    pub way_of : Keeps s.slots s.present grown IsLow log t e.effects (log ++ e.changes)
    way_of =
        event_way once s.slots s.present grown IsLow t.tape a.slots t a records (contents_behind a j m j.phase) (clones_behind its_around j m j.phase) (dumps_behind records j j.phase) e.effects e.changes e.job kept st.contents_are contents_then refl low_here low_then here_are
        log (log ++ e.changes) (event_cuts its_around j) log_bytes log_form st.slots journal

    abbrev pub state_then : State
    state_then = come e.effects t

    abbrev pub z : Archive
    z = kept.last.archive

    slots_then : z.slots ≡ slots_at state_then
    slots_then =
        last_slots once s.slots s.present grown IsLow t.tape a.slots t a records (contents_behind a j m j.phase) (clones_behind its_around j m j.phase) (dumps_behind records j j.phase) e.effects e.changes e.job kept st.contents_are contents_then refl low_here low_then here_are

    log_then : z.log ≡ log ++ e.changes
    log_then = kept.log ∙ ap (λ (l : List Change). l ++ e.changes) st.log_is

    contents_now : z.contents ≡ grown
    contents_now = kept.contents_are ∙ contents_then

    put_then : HavePut j.head.id (listed_of a) a.slots z.slots
    put_then = subst (λ (n : ℕ). HavePut n (listed_of a) a.slots z.slots) (event_same its_around j).id kept.put

    heads_then : HeadsUpTo top (slots_at state_then)
    heads_then = subst (HeadsUpTo top) slots_then (heads_on j.head.id top (listed_of a) a.slots z.slots u.low put_then (subst (HeadsUpTo top) (sym st.slots) st.heads))

    pub up_of : StaysUpTo top s.slots s.present t e.effects
    up_of = event_up top s.slots s.present e.effects t (event_cuts its_around j) st.heads heads_then

    -- ---- how long tapes are

    open_count : (opened : List Item) → IsOpen a j m opened → length (t.tape j.reel.slot) ≤ records_on j.reel
    open_count opened x =
        let read = read_length (t.tape j.reel.slot) x.slot.items (u.runs.held.seen.tapes j.reel.slot x.slot x.at) in
        let count = x.count in
        omega (arith, read, count)

    counted_at : (ph : Phase) → IsRunning ph → Before a j m ph → IsCounted ph j t
    counted_at phase.Tape run b = tt
    counted_at phase.Clone run b = open_count _ b.open_part
    counted_at phase.Head run b = with_hand_in (λ h. BeforeHead a j h m) (IsCounted phase.Head j t) j.hand b (λ h x. open_count _ x.open_part)
    counted_at phase.Piece run b = with_hand_in (λ h. BeforePiece a j h m) (IsCounted phase.Piece j t) j.hand b (λ h x. open_count _ x.fragment.open_part)
    counted_at phase.VolumeEnd run b = with_hand_in (λ h. BeforeVolumeEnd a j h m) (IsCounted phase.VolumeEnd j t) j.hand b (λ h x. open_count _ x.fragment.open_part)
    counted_at phase.PartEnd run b = with_hand_in (λ h. BeforePartEnd a j h m) (IsCounted phase.PartEnd j t) j.hand b (λ h x. open_count _ x.open_part)
    counted_at phase.DumpEnd run b = with_hand_in (λ h. BeforeDumpEnd a j h m) (IsCounted phase.DumpEnd j t) j.hand b (λ h x. open_count _ x.open_part)
    counted_at phase.Over run b = absurd run

    bounds : Bounds j.reel.slot (records_on j.reel + 3) t e.effects
    bounds = event_bounds its_around j t (counted_at j.phase u.running u.runs.before)

    short_then : (k : ℕ) → length (state_then.tape k) ≤ 4294967295
    short_then k = elim (cases_Bool (k == j.reel.slot)) [
      | inl hit ↦
          (let same : k ≡ j.reel.slot = eqb-true k j.reel.slot hit in
          let few : records_on j.reel + 3 ≤ 4294967295 = few_at j.phase j u.forms u.running u.forms.job.at in
          let own : length (state_then.tape j.reel.slot) ≤ records_on j.reel + 3 = bounds.own in
          let here : length (state_then.tape k) ≡ length (state_then.tape j.reel.slot) = ap (λ (n : ℕ). length (state_then.tape n)) same in
          omega (arith, few, own, here))
      | inr miss ↦
          (let stays : length (state_then.tape k) ≡ length (t.tape k) = ap length (bounds.others k (λ same. hit_and_miss (k == j.reel.slot) (eq-eqb k j.reel.slot same) miss)) in
          let old = st.short k in
          omega (arith, stays, old))
    ]

    -- Behind its step the plant holds an archive with all that was asked.
    pub stands_then : StandsAt s time top grown (log ++ e.changes) state_then z kept.last.records known_then
    stands_then = record {
      log_is = log_then;
      slots = slots_then;
      contents_are = contents_now;
      held = kept.runs.held;
      all_known = λ d there. among_at j.phase records known st.all_known d (kept.dumps_are d there);
      low = λ d there. elim (known_is d there) [
        | inl old ↦ st.low d old
        | inr new ↦ subst IsLow new u.low
      ];
      fair = fair_at j.phase u.runs.before;
      heads = heads_then;
      short = short_then;
    }

    -- ---- the dump behind it

    finds_at : (ph : Phase) → Before a j m ph → Asks a known its_around j ph → Finds ph its_around j
    finds_at phase.Tape b c = tt
    finds_at phase.Clone b c =
        ap (λ (x : Option ℕ). goes_on (clone_from s.cell x j).answer) c.at ∙ ap (λ (x : Option VolEntry). goes_on (clone_by x (clone_at s.cell c.place j.time) j).answer) c.listed
        ∙ ap (λ (x : Option Taken). goes_on (clone_by (Some c.entry) x j).answer) c.taken
    finds_at phase.Head b c = hand_there (λ h. BeforeHead a j h m) j.hand b
    finds_at phase.Piece b c = hand_there (λ h. BeforePiece a j h m) j.hand b
    finds_at phase.VolumeEnd b c = hand_there (λ h. BeforeVolumeEnd a j h m) j.hand b
    finds_at phase.PartEnd b c = tt
    finds_at phase.DumpEnd b c = tt
    finds_at phase.Over b c = tt

    pub finds : Finds j.phase its_around j
    finds = finds_at j.phase u.runs.before asks

    clones_then : AreFirstClones s.cell time e.job.places kept.made.clones
    clones_then =
        subst (λ (ps : List ℕ). AreFirstClones s.cell time ps kept.made.clones) (sym (fields_same its_around j).places)
        (subst (AreFirstClones s.cell time j.places) (sym kept.clones_are)
        (subst (λ (n : ℕ). AreFirstClones s.cell n j.places (clones_behind its_around j m j.phase)) u.time_is (clones_at j.phase u.runs.before asks)))

    grown_then : IsGrown s time grown e.job
    grown_then clones are all =
        let same = event_same its_around j in
        let places = (fields_same its_around j).places in
        let own = u.is_grown clones (subst (λ (ps : List ℕ). AreFirstClones s.cell time ps clones) places are) (all ∙ ap length places) in
        subst (λ (b : Basis). with_dump grown b clones ≡ grown) (sym same.basis) own

    new_at : (ph : Phase) → IsRunning (event_by ph its_around j).job.phase → (d : DumpRecordFields) → Contains (dumps_behind known j ph) d → d.id ≡ j.head.id → ⊥
    new_at phase.Tape run d there same = u.new d there same
    new_at phase.Clone run d there same = u.new d there same
    new_at phase.Head run d there same = u.new d there same
    new_at phase.Piece run d there same = u.new d there same
    new_at phase.VolumeEnd run d there same = u.new d there same
    new_at phase.PartEnd run d there same = u.new d there same
    new_at phase.DumpEnd run d there same = over_ends (is_too_long its_around.log_size (done_changes j)) j run
    new_at phase.Over run d there same = u.new d there same

    -- Where it goes on it is underway again.
    pub underway_then : goes_on e.answer ≡ true → IsUnderway s time top grown state_then z kept.last.records known_then e.job kept.made
    underway_then more = record {
      runs = kept.runs;
      running = event_runs its_around j more;
      on = (event_same its_around j).on u.on;
      forms = forms_then.job;
      good = subst (HasGoodPlaces s.cell) (sym (fields_same its_around j).places) u.good;
      time_is = (fields_same its_around j).time ∙ u.time_is;
      clones = clones_then;
      is_grown = grown_then;
      parent_known = λ d is. known_more d (u.parent_known d (sym (fields_same its_around j).parent ∙ is));
      new = λ d there same. new_at j.phase (event_runs its_around j more) d there (same ∙ (event_same its_around j).id);
      low = subst (λ (n : ℕ). n ≤ top) (sym (event_same its_around j).id) u.low;
    }
