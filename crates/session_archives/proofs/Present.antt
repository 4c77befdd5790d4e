-- The effects of a dump are on tapes in slots that are here.
use Rattle.std.proofs.Common.{◌≡◌, inl, inr, ℕ, zero, suc, Bool, true, false, IsTrue, Option, Some, None, List, [], ◌∷◌, ◌++◌, length, take, refl, sym, ap, subst, ◌∙◌, arith}
use Rattle.std.specs.Prelude.{All, not, ◌==◌, ◌&&◌, if◌then◌else◌, slice_get, Result, Ok, Err}
use Rattle.std.proofs.lemmas.Bool.{eqb-true}
use Rattle.std.proofs.lemmas.List.Elements.{All-nil, All-cons, All-append}
use Rattle.vnode_model.specs.declared.listed.VolEntry.{VolEntry}
use Rattle.plant_core.specs.Crashes.{State}
use Rattle.plant_core.specs.Records.{Record}
use Rattle.plant_core.specs.Effects.{Effect, commits, replaces, tells, puts, settles, cuts, comes, come}
use Rattle.cell_core.specs.declared.stored.Stored.{Stored}
use Rattle.cell_core.specs.declared.stored.Taken.{Taken}
use Rattle.cell_core.specs.Calls.{entry_at, clone_at}
use Rattle.tape_config.specs.declared.port.PortFields.{PortFields}
use Rattle.tape_frames.specs.declared.label.LabelFields.{LabelFields}
use Rattle.tape_frames.specs.TapeNames.{numbered}
use Rattle.tape_text.specs.Items.{Item as TapeItem, Says, Filemark, Nothing}
use Rattle.tape_scan.specs.Slots.{Slot}
use Rattle.tape_writer.specs.Puts.{put_on, puts_on}
use Rattle.tape_answers.specs.Slots.{slots_of}
use Rattle.tape_choice.specs.declared.choosing.Chosen.{Chosen}
use Rattle.tape_choice.specs.declared.places.Place.{Place}
use Rattle.tape_choice.specs.declared.places.Appending.TheVariants.{Found}
use Rattle.tape_choice.specs.declared.wanting.Wanting.{Wanting}
use Rattle.tape_choice.specs.Choice.{is_among, is_used, tape_passes, slot_passes, chosen, taking, choice_of}
use Rattle.tape_choice.specs.Append.{is_as_told, appending}
use Rattle.budb_changes.specs.declared.records.DumpRecordFields.{DumpRecordFields}
use Rattle.budb_changes.specs.declared.change.Change.{Change}
use Rattle.budb_changes.specs.Bytes.{encoded}
use Rattle.budb_fold.specs.declared.database.Database.{Database}
use Rattle.budb_fold.specs.Database.{after}
use Rattle.archive_model.specs.Holding.{holds}
use Rattle.dump_job.specs.declared.answer.StepAnswer.{StepAnswer}
use Rattle.dump_job.specs.declared.answer.StepAnswer.TheVariants as answers
use Rattle.dump_job.specs.declared.fault.JobFault.{JobFault}
use Rattle.dump_job.specs.declared.first_tapes.FirstTape.{FirstTape}
use Rattle.dump_job.specs.declared.order.DumpOrder.{DumpOrder}
use Rattle.dump_job.specs.declared.fields.Filled.{Filled}
use Rattle.dump_job.specs.declared.fields.Hand.{Hand}
use Rattle.dump_job.specs.declared.fields.JobFields.{JobFields}
use Rattle.dump_job.specs.declared.fields.Phase.{Phase}
use Rattle.dump_job.specs.declared.fields.Phase.TheVariants as phase
use Rattle.dump_job.specs.declared.fields.Reel.{Reel}
use Rattle.dump_job.specs.Reels.{counts_on, has_room}
use Rattle.dump_job.specs.Beginning.{wanting_of, id_of, tape_found}
use Rattle.dump_job.specs.Taping.{uses_for, tape_items, reel_begun}
use Rattle.dump_job.specs.Cloning.{volumes_done}
use Rattle.dump_job.specs.Volumes.{head_items, headed, piece_items, pieced, end_items, volume_ended, volume_cut}
use Rattle.dump_job.specs.Ending.{part_end_items, closed_part}
use Rattle.dump_job.specs.Passing.{may_go_on, next_wanting, next_choice, next_changes, with_filled, part_passed, part_refused}
use Rattle.dump_job.specs.Closing.{committing, is_too_long, made_of, done_changes, dump_ended}
use Rattle.dump_job.specs.Events.{Around, Event, putting, items_at, tape_event, clone_by, clone_from, closing, part_end_by, part_end_event, dump_end_event, head_event, piece_event, hand_event, event_by}
use Rattle.dump_laws.proofs.ChosenLaws.{and_left, and_right, numbered_get}
use Rattle.dump_laws.proofs.AppendLaws.{found_behind}
use Rattle.dump_laws.proofs.BeginLaws.{first_found, found_taken}
use Rattle.dump_courses.specs.Scenes.{Scene, database_in, slots_in, entries_in, whole_in}
use Rattle.dump_courses.specs.Courses.{Point, Course, around, next_event, behind, goes_on, last_event, event_then, course_within, events_left, course}
use Rattle.backup_words.specs.declared.command.DumpCommand.{DumpCommand}
use Rattle.dump_commands.specs.Orders.{asked_port, order_of}
use Rattle.dump_commands.specs.Refusals.{fault_of, refusal_by, trial_refusal}
use Rattle.dump_commands.specs.Trials.{trial_text}
use Rattle.dump_commands.specs.Answers.{Answer, begun_point, begun, tape_for, said, begun_or, refused_or, trial_answer, real_answer, order_answer, port_answer, dump_answer}
use Rattle.backup_session.specs.Tapes.{taken}
use Rattle.session_archives.proofs.Slots.{slot_told}

-- one of two, whichever it is
pub picked : {T : Type 0} (Q : T → Type 0) (b : Bool) (x y : T) → Q x → Q y → Q (if b then x else y)
picked Q true x y is_x is_y = is_x
picked Q false x y is_x is_y = is_y

module _ (present : ℕ → Bool) where
  -- each of these effects that is on a tape is on one in a slot that is here
  abbrev pub TouchesHere : List Effect → Type 0
  TouchesHere [] = Unit {0}
  TouchesHere (commits bytes ∷ es) = TouchesHere es
  TouchesHere (replaces bytes ∷ es) = TouchesHere es
  TouchesHere (tells text ∷ es) = TouchesHere es
  TouchesHere (puts k r ∷ es) = IsTrue (present k) × TouchesHere es
  TouchesHere (settles k ∷ es) = IsTrue (present k) × TouchesHere es
  TouchesHere (cuts k n ∷ es) = IsTrue (present k) × TouchesHere es

  pub both : (es fs : List Effect) → TouchesHere es → TouchesHere fs → TouchesHere (es ++ fs)
  both [] fs first second = second
  both (commits bytes ∷ es) fs first second = both es fs first second
  both (replaces bytes ∷ es) fs first second = both es fs first second
  both (tells text ∷ es) fs first second = both es fs first second
  both (puts k r ∷ es) fs first second = (first.0, both es fs first.1 second)
  both (settles k ∷ es) fs first second = (first.0, both es fs first.1 second)
  both (cuts k n ∷ es) fs first second = (first.0, both es fs first.1 second)

-- ---- the other tapes stay

module _ (present : ℕ → Bool) (k : ℕ) (absent : IsTrue (present k) → ⊥) where
  apart : (j : ℕ) → IsTrue (present j) → (b : Bool) → (k == j) ≡ b → b ≡ false
  apart j here true same = absurd (absent (subst (λ (n : ℕ). IsTrue (present n)) (sym (eqb-true k j same)) here))
  apart j here false same = refl

  other : {A : Type 0} (j : ℕ) → IsTrue (present j) → (x y : A) → (if k == j then x else y) ≡ y
  other j here x y = ap (λ (b : Bool). if b then x else y) (apart j here (k == j) refl)

  -- what is said of the slot of a state and of a later one
  abbrev pub StaysAt : State → State → Type 0
  StaysAt s t = (t.tape k ≡ s.tape k) × (t.settled k ≡ s.settled k)

  pub stays : (es : List Effect) (s : State) → TouchesHere present es → StaysAt s (come es s)
  stays [] s here = (refl, refl)
  stays (commits bytes ∷ es) s here = stays es (comes (commits bytes) s) here
  stays (replaces bytes ∷ es) s here = stays es (comes (replaces bytes) s) here
  stays (tells text ∷ es) s here = stays es (comes (tells text) s) here
  stays (puts j r ∷ es) s here =
      let rest = stays es (comes (puts j r) s) here.1 in
      (rest.0 ∙ other j here.0 (s.tape k ++ r ∷ []) (s.tape k), rest.1)
  stays (settles j ∷ es) s here =
      let rest = stays es (comes (settles j) s) here.1 in
      (rest.0, rest.1 ∙ other j here.0 (length (s.tape k)) (s.settled k))
  stays (cuts j n ∷ es) s here =
      let rest = stays es (comes (cuts j n) s) here.1 in
      (rest.0 ∙ other j here.0 (take n (s.tape k)) (s.tape k), rest.1 ∙ other j here.0 (length (take n (s.tape k))) (s.settled k))

-- ---- what is put on a tape

module _ (present : ℕ → Bool) (k : ℕ) (here : IsTrue (present k)) where
  put_here : (i : TapeItem) → TouchesHere present (put_on k i)
  put_here (Says f) = (here, tt)
  put_here Filemark = (here, (here, tt))
  put_here Nothing = (here, tt)

  puts_here : (items : List TapeItem) → TouchesHere present (puts_on k items)
  unfolding puts_on
  puts_here [] = tt
  puts_here (i ∷ is) = both present (put_on k i) (puts_on k is) (put_here i) (puts_here is)

-- ---- a tape that is chosen or found is here

module _ (count : ℕ) (present : ℕ → Bool) (tape : ℕ → List Record) where
  at_here : (k : ℕ) (s : Slot) → slice_get (slots_of count present tape) k ≡ Some s → s.here ≡ true → IsTrue (present k)
  at_here k s at here = (let told = slot_told present tape count k s at in ap (λ (x : Slot). x.here) (sym told.1) ∙ here)

  by_found : (listed : List DumpRecordFields) (w : Wanting) (port : PortFields) (o : Option (ℕ × Slot)) (c : Chosen) → chosen listed w port (slots_of count present tape) ≡ o → choice_of listed o ≡ Some c → IsTrue (present c.slot)
  by_found listed w port None c found is = absurd (cc)
  by_found listed w port (Some (k, s)) c found is =
      let x = numbered_get (λ (y : ℕ × Slot). is_among port y.0 && slot_passes listed w y.0 y.1) 0 (slots_of count present tape) (k, s) found in
      let index : x.0 ≡ k = omega (arith, x.1) in
      let at : slice_get (slots_of count present tape) k ≡ Some s = ap (λ (n : ℕ). slice_get (slots_of count present tape) n) (sym index) ∙ x.2 in
      let here : s.here ≡ true = and_left s.here (not (is_used w k) && tape_passes listed w s.items) (and_right (is_among port k) (slot_passes listed w k s) x.3) in
      let same : taking listed k s.items ≡ c = cc in
      subst (λ (y : Chosen). IsTrue (present y.slot)) same (at_here k s at here)

  chosen_here : (listed : List DumpRecordFields) (w : Wanting) (port : PortFields) (c : Chosen) → choice_of listed (chosen listed w port (slots_of count present tape)) ≡ Some c → IsTrue (present c.slot)
  chosen_here listed w port c is = by_found listed w port (chosen listed w port (slots_of count present tape)) c refl is

  where_it_may : (b : Bool) (o : Option Chosen) (c : Chosen) → (o ≡ Some c → IsTrue (present c.slot)) → (if b then o else None) ≡ Some c → IsTrue (present c.slot)
  where_it_may true o c here is = here is
  where_it_may false o c here is = absurd (cc)

  next_here : (listed : List DumpRecordFields) (j : JobFields) (c : Chosen) → next_choice listed (slots_of count present tape) j ≡ Some c → IsTrue (present c.slot)
  next_here listed j c is = where_it_may (may_go_on j) (choice_of listed (chosen listed (next_wanting listed j) j.port (slots_of count present tape))) c (λ found. chosen_here listed (next_wanting listed j) j.port c found) is

  place_here : (listed : List DumpRecordFields) (set : List ℕ) (port : PortFields) (whole : ℕ → Bool) (p : Place) → appending listed set port whole (slots_of count present tape) ≡ Found p → IsTrue (present p.slot)
  place_here listed set port whole p is =
      let x = found_behind listed set port whole (slots_of count present tape) p is in
      let here : x.slot.here ≡ true = and_left x.slot.here (holds x.one.dump x.one.part.tape x.slot.items && (whole x.number && is_as_told x.one.part x.slot.items)) x.passes in
      subst (λ (y : Place). IsTrue (present y.slot)) x.is (at_here x.number x.slot x.at here)

-- the tape on which a dump begins
pub first_here : (s : Scene) (o : DumpOrder) (t : FirstTape) → tape_for s o ≡ Ok t → IsTrue (s.present t.reel.slot)
unfolding tape_for
first_here s o t is =
    let db : Database = database_in s in
    let found = first_found o (length (encoded s.log)) db.greatest (id_of o db) (tape_found o db.listed (slots_in s) (whole_in s) (id_of o db)) t is in
    elim (found_taken o db.listed (slots_in s) (whole_in s) (id_of o db) t found.0) [
      | inl placed ↦
          subst (λ (x : FirstTape). IsTrue (s.present x.reel.slot)) (sym placed.2) (place_here s.slots s.present s.state.tape db.listed o.set o.port (whole_in s) placed.0 placed.1)
      | inr taken ↦ subst (λ (x : FirstTape). IsTrue (s.present x.reel.slot)) taken.is (chosen_here s.slots s.present s.state.tape db.listed (wanting_of o db.listed taken.initial (numbered taken.base taken.number)) o.port taken.one taken.choice)
    ]

-- ---- the events of a dump

module _ (present : ℕ → Bool) where
  -- an ended part is on a tape in a slot that is here
  abbrev pub IsFilledHere : Filled → Type 0
  IsFilledHere f = IsTrue (present f.slot)

  -- the tape in hand is in such a slot, and so are those of the ended parts
  abbrev pub IsHere : JobFields → Type 0
  IsHere j = IsTrue (present j.reel.slot) × All IsFilledHere j.filled

  -- an event is on tapes in slots that are here, and so are those of the dump behind it
  abbrev pub StaysHere : Event → Type 0
  StaysHere e = TouchesHere present e.effects × IsHere e.job

  begun_reel : (label : Option LabelFields) (reel : Reel) → IsTrue (present reel.slot) → IsTrue (present (reel_begun label reel).slot)
  begun_reel None reel here = here
  begun_reel (Some a) reel here = here

  putting_here : (items : List TapeItem) (j next : JobFields) → IsHere j → IsHere next → StaysHere (putting items j next)
  putting_here items j next here then_here = (puts_here present j.reel.slot here.0 items, then_here)

  tape_here : (uses : ℕ) (j : JobFields) → IsHere j → StaysHere (tape_event uses j)
  tape_here uses j here = ((here.0, puts_here present j.reel.slot here.0 (tape_items uses j)), (begun_reel j.label j.reel here.0, here.1))

  clone_here : (e : Option VolEntry) (c : Option Taken) (j : JobFields) → IsHere j → StaysHere (clone_by e c j)
  clone_here (Some e) (Some c) j here = (tt, here)
  clone_here (Some e) None j here = (tt, here)
  clone_here None taken j here = (tt, here)

  volume_here : (cell : List Stored) (place : Option ℕ) (j : JobFields) → IsHere j → StaysHere (clone_from cell place j)
  volume_here cell None j here = (tt, here)
  volume_here cell (Some place) j here = clone_here (entry_at cell place) (clone_at cell place j.time) j here

  commit_here : (changes : List Change) → TouchesHere present (committing changes)
  commit_here [] = tt
  commit_here (c ∷ cs) = tt

  closing_here : (items : List TapeItem) (changes : List Change) (size : ℕ) (j next : JobFields) (told : StepAnswer) (refused : JobFields) → IsHere j → IsHere next → IsHere refused → StaysHere (closing items changes size j next told refused)
  closing_here items changes size j next told refused here then_here else_here = (
    both present (puts_on j.reel.slot items) (committing (made_of size changes)) (puts_here present j.reel.slot here.0 items) (commit_here (made_of size changes)),
    picked IsHere (is_too_long size changes) refused next else_here then_here,
  )

  -- with the part in hand among those that are ended
  with_part : (j : JobFields) → IsHere j → All IsFilledHere (with_filled j)
  with_part j here = (let part : Filled = record { slot = j.reel.slot; part = closed_part j } in All-append IsFilledHere j.filled (part ∷ []) here.1 (All-cons IsFilledHere part [] here.0 (All-nil IsFilledHere)))

  choice_here : (cut : Bool) (o : Option Chosen) (size : ℕ) (j : JobFields) → IsHere j → ((c : Chosen) → o ≡ Some c → IsTrue (present c.slot)) → StaysHere (part_end_by cut o size j)
  choice_here cut None size j here next = (puts_here present j.reel.slot here.0 (part_end_items 1 j), here)
  choice_here cut (Some c) size j here next = closing_here (part_end_items 1 j) (next_changes (Some c)) size j (part_passed cut c j) answers.More (part_refused j) here (next c refl, with_part j here) here

  one_event : (b : Bool) (d e : Event) → StaysHere d → StaysHere e → StaysHere (if b then d else e)
  one_event = picked StaysHere

  module _ (a : Around) (j : JobFields) (here : IsHere j) (next : (c : Chosen) → next_choice a.listed a.slots j ≡ Some c → IsTrue (present c.slot)) where
    part_end_here : (cut : Bool) → StaysHere (part_end_event cut a j)
    part_end_here cut = choice_here cut (next_choice a.listed a.slots j) a.log_size j here next

    dump_end_here : StaysHere (dump_end_event a.log_size j)
    dump_end_here = closing_here (part_end_items 0 j) (done_changes j) a.log_size j (dump_ended j) (answers.Done j.head.id) (dump_ended j) here here here

    head_here : (h : Hand) → StaysHere (head_event a h j)
    head_here h = one_event (has_room 4 2 (counts_on j.port j.reel)) (putting (head_items h) j (headed h j)) (part_end_event false a j) (putting_here (head_items h) j (headed h j) here here) (part_end_here false)

    piece_here : (h : Hand) → StaysHere (piece_event h j)
    piece_here h =
        one_event (has_room 3 2 (counts_on j.port j.reel)) (putting (piece_items h) j (pieced h j)) (putting (end_items 0 h) j (volume_cut j)) (putting_here (piece_items h) j (pieced h j) here here)
        (putting_here (end_items 0 h) j (volume_cut j) here here)

    hand_here : (step : Hand → Event) (hand : Option Hand) → ((h : Hand) → StaysHere (step h)) → StaysHere (hand_event step hand j)
    hand_here step None each = (tt, here)
    hand_here step (Some h) each = each h

    phase_here : (p : Phase) → StaysHere (event_by p a j)
    phase_here phase.Tape = tape_here (uses_for j (items_at a.slots j.reel.slot)) j here
    phase_here phase.Clone = volume_here a.cell (slice_get j.places (length (volumes_done j))) j here
    phase_here phase.Head = hand_here (λ h. head_event a h j) j.hand (λ h. head_here h)
    phase_here phase.Piece = hand_here (λ h. piece_event h j) j.hand (λ h. piece_here h)
    phase_here phase.VolumeEnd = hand_here (λ h. putting (end_items 1 h) j (volume_ended h j)) j.hand (λ h. putting_here (end_items 1 h) j (volume_ended h j) here here)
    phase_here phase.PartEnd = part_end_here true
    phase_here phase.DumpEnd = dump_end_here
    phase_here phase.Over = (tt, here)

-- ---- a dump

module _ (s : Scene) where
  pub event_here : (p : Point) → IsHere s.present p.job → StaysHere s.present (next_event s p)
  event_here p here = phase_here s.present (around s p) p.job here (λ c is. next_here s.slots s.present p.state.tape (after p.log).listed p.job c is) p.job.phase

  more_here : (more : Bool) (p : Point) (e : Event) (rest : Course) → TouchesHere s.present e.effects → TouchesHere s.present rest.effects → TouchesHere s.present (if more then event_then e rest else last_event p e).effects
  more_here true p e rest first others = both s.present e.effects rest.effects first others
  more_here false p e rest first others = first

  within_here : (n : ℕ) (p : Point) → IsHere s.present p.job → TouchesHere s.present (course_within n s p).effects
  within_here zero p here = (event_here p here).0
  within_here (suc n) p here =
      let e : Event = next_event s p in
      let x = event_here p here in
      more_here (goes_on e.answer) p e (course_within n s (behind p e)) x.0 (within_here n (behind p e) x.1)

  course_here : (p : Point) → IsHere s.present p.job → TouchesHere s.present (course s p).effects
  unfolding course
  course_here p here = within_here (events_left s.cell p.job) p here

  begun_here : (o : DumpOrder) (t : FirstTape) → tape_for s o ≡ Ok t → TouchesHere s.present (begun s o t).effects
  unfolding begun
  begun_here o t is = course_here (begun_point s o t) (first_here s o t is, All-nil (IsFilledHere s.present))

  by_tape : (o : DumpOrder) (r : Result FirstTape JobFault) → tape_for s o ≡ r → TouchesHere s.present (begun_or s o r).effects
  by_tape o (Ok t) is = begun_here o t is
  by_tape o (Err f) is = tt

  by_refusal : (r : Option (List ℕ)) (a : Answer) → TouchesHere s.present a.effects → TouchesHere s.present (refused_or s r a).effects
  by_refusal (Some text) a is = tt
  by_refusal None a is = is

  by_trial : (o : DumpOrder) (trial : Bool) → TouchesHere s.present (if trial then trial_answer s o else real_answer s o).effects
  unfolding real_answer
  by_trial o true = by_refusal (trial_refusal (entries_in s) o) (said s (trial_text (database_in s).listed s.cell o)) tt
  by_trial o false = by_refusal (refusal_by (entries_in s) o (fault_of (tape_for s o))) (begun_or s o (tape_for s o)) (by_tape o (tape_for s o) refl)

  by_port : (a : DumpCommand) (r : Result PortFields (List ℕ)) → TouchesHere s.present (port_answer s a r).effects
  unfolding order_answer
  by_port a (Err text) = tt
  by_port a (Ok port) = by_trial (order_of s.config (database_in s) (entries_in s) s.time a port) a.trial

  pub answer_here : (a : DumpCommand) → TouchesHere s.present (dump_answer s a).effects
  unfolding dump_answer
  answer_here a = by_port a (asked_port s.config (database_in s) a)
