-- A dump leaves each tape with no more records than a number of four bytes counts: the tapes of its port take at most 4,000,000,000 bytes.
use Rattle.std.proofs.Common.{◌≡◌, ℕ, zero, suc, ◌+◌, ◌*◌, ◌≤◌, Bool, true, false, Option, Some, None, List, [], ◌∷◌, ◌++◌, length, length-append, map, take, refl, sym, ◌∙◌, ap, subst, arith, inl, inr}
use Rattle.std.specs.Prelude.{All, ◌==◌, slice_get, if◌then◌else◌, Result, Ok, Err}
use Rattle.std.proofs.lemmas.Bool.{cases_Bool, eqb-true}
use Rattle.std.proofs.lemmas.Bool.Decides.{nat_tests}
use Rattle.std.proofs.lemmas.List.{length-map}
use Rattle.plant_core.specs.Records.{Record}
use Rattle.plant_core.specs.Crashes.{State}
use Rattle.plant_core.specs.Effects.{cuts, comes, come}
use Rattle.plant_effects.proofs.States.{come_append}
use Rattle.vnode_model.specs.declared.listed.VolEntry.{VolEntry}
use Rattle.cell_core.specs.declared.stored.Stored.{Stored}
use Rattle.cell_core.specs.declared.stored.Taken.{Taken}
use Rattle.cell_core.specs.Calls.{entry_at, clone_at}
use Rattle.tape_config.specs.declared.port.PortFields.{PortFields}
use Rattle.tape_frames.specs.declared.label.LabelFields.{LabelFields}
use Rattle.tape_frames.specs.declared.dump_head.DumpHeadFields.{DumpHeadFields}
use Rattle.tape_text.specs.Items.{Item, record_for}
use Rattle.tape_writer.specs.Room.{HasRoom}
use Rattle.tape_writer.specs.Puts.{begun, puts_on, with_items}
use Rattle.tape_writer.proofs.Standing.{stands}
use Rattle.tape_choice.specs.declared.choosing.Chosen.{Chosen}
use Rattle.budb_changes.specs.declared.change.Change.{Change}
use Rattle.budb_changes.specs.Forms.{AreChanges}
use Rattle.budb.proofs.FoldForms.{forms_after}
use Rattle.dump_job.specs.declared.answer.StepAnswer.{StepAnswer}
use Rattle.dump_job.specs.declared.answer.StepAnswer.TheVariants as answers
use Rattle.dump_job.specs.declared.fault.JobFault.{JobFault}
use Rattle.dump_job.specs.declared.first_tapes.FirstTape.{FirstTape}
use Rattle.dump_job.specs.declared.order.DumpOrder.{DumpOrder}
use Rattle.dump_job.specs.declared.fields.Hand.{Hand}
use Rattle.dump_job.specs.declared.fields.JobFields.{JobFields}
use Rattle.dump_job.specs.declared.fields.Reel.{Reel}
use Rattle.dump_job.specs.declared.fields.Phase.{Phase}
use Rattle.dump_job.specs.declared.fields.Phase.TheVariants as phase
use Rattle.dump_job.specs.Reels.{records_on, counts_on, has_room}
use Rattle.dump_job.specs.Taping.{uses_for, head_with, tape_items, reel_begun, taped}
use Rattle.dump_job.specs.Cloning.{volumes_done}
use Rattle.dump_job.specs.Volumes.{head_items, headed, piece_items, pieced, end_items, volume_ended, volume_cut}
use Rattle.dump_job.specs.Ending.{part_end_items}
use Rattle.dump_job.specs.Passing.{next_choice, next_changes, part_passed, part_refused}
use Rattle.dump_job.specs.Closing.{committing, is_too_long, made_of, done_changes, dump_ended}
use Rattle.dump_job.specs.Jobs.{IsAt}
use Rattle.dump_job.specs.Events.{Around, Event, putting, items_at, tape_event, clone_by, clone_from, closing, part_end_by, part_end_event, dump_end_event, head_event, piece_event, hand_event, event_by, event}
use Rattle.cell_core.specs.Forms.{IsStoredForm}
use Rattle.dump_forms.specs.Forms.{HasForms}
use Rattle.dump_forms.specs.Begins.{IsOrderForm}
use Rattle.dump_forms.proofs.SlotForms.{tapes_fit}
use Rattle.dump_forms.proofs.BeginForms.{begin_forms}
use Rattle.dump_courses.specs.Scenes.{Scene, database_in, slots_in, entries_in, whole_in}
use Rattle.dump_courses.specs.Courses.{Point, around, next_event, behind, Course, goes_on, last_event, event_then, course_within, events_left, course}
use Rattle.backup_words.specs.declared.command.DumpCommand.{DumpCommand}
use Rattle.dump_commands.specs.Orders.{asked_port, order_of}
use Rattle.dump_commands.specs.Refusals.{refusal_by, fault_of, trial_refusal}
use Rattle.dump_commands.specs.Trials.{trial_text}
use Rattle.dump_commands.specs.Answers.{Answer, said, commit_of, begun_point, begun as begun_answer, tape_for, begun_or, refused_or, real_answer, trial_answer, order_answer, port_answer, dump_answer}
use Rattle.dump_commands.specs.Forms.{AreShort}
use Rattle.dump_commands.proofs.FormLaws.{some_volumes, next_forms}

-- ---- items that are put

if_same : (b : Bool) (xs ys : List Record) → length ys ≤ length xs → length (if b then xs else ys) ≤ length xs
if_same true xs ys le = omega arith
if_same false xs ys le = le

put_long : (k : ℕ) (items : List Item) (s : State) (j : ℕ) → length ((come (puts_on k items) s).tape j) ≤ length (s.tape j) + length items
put_long k items s j =
    let all : List Record = s.tape j ++ map record_for items in
    let long : length all ≡ length (s.tape j) + length items = length-append (s.tape j) (map record_for items) ∙ ap (λ (n : ℕ). length (s.tape j) + n) (length-map items record_for) in
    let less : length ((with_items k items s).tape j) ≤ length all = if_same (j == k) all (s.tape j) (omega (arith, long)) in
    omega (arith, long, less, ap length ((stands k items s).tape j))

put_short : (k : ℕ) (items : List Item) (s : State) → AreShort s.tape → length (s.tape k) + length items ≤ 4294967295 → AreShort (come (puts_on k items) s).tape
put_short k items s short room j = elim (cases_Bool (j == k)) [
  | inl hit ↦
      (let same : length (s.tape j) ≡ length (s.tape k) = ap (λ (n : ℕ). length (s.tape n)) (eqb-true j k hit) in
      omega (arith, put_long k items s j, same, room))
  | inr miss ↦ subst (λ (l : List Record). length l ≤ 4294967295) (sym ((stands k items s).tape j)) (rw miss (short j))
]

-- ---- a dump between two events

-- the tape in hand has no more records than are counted
abbrev IsCountedAt : Phase → JobFields → State → Type 0
IsCountedAt phase.Tape j s = Unit {0}
IsCountedAt phase.Clone j s = length (s.tape j.reel.slot) ≤ records_on j.reel
IsCountedAt phase.Head j s = length (s.tape j.reel.slot) ≤ records_on j.reel
IsCountedAt phase.Piece j s = length (s.tape j.reel.slot) ≤ records_on j.reel
IsCountedAt phase.VolumeEnd j s = length (s.tape j.reel.slot) ≤ records_on j.reel
IsCountedAt phase.PartEnd j s = length (s.tape j.reel.slot) ≤ records_on j.reel
IsCountedAt phase.DumpEnd j s = length (s.tape j.reel.slot) ≤ records_on j.reel
IsCountedAt phase.Over j s = Unit {0}

record IsShort (j : JobFields) (s : State) : Type 0 where
  tapes : AreShort s.tape
  hand : IsCountedAt j.phase j s

counted_at : (p : Phase) (j : JobFields) (s : State) → length (s.tape j.reel.slot) ≤ records_on j.reel → IsCountedAt p j s
counted_at phase.Tape j s few = tt
counted_at phase.Clone j s few = few
counted_at phase.Head j s few = few
counted_at phase.Piece j s few = few
counted_at phase.VolumeEnd j s few = few
counted_at phase.PartEnd j s few = few
counted_at phase.DumpEnd j s few = few
counted_at phase.Over j s few = tt

-- items are put on the tape in hand, and counted
put_counted : (j next : JobFields) (items : List Item) (s : State) → AreShort s.tape → length (s.tape j.reel.slot) ≤ records_on j.reel → records_on j.reel + length items ≤ 4294967295
    → next.reel.slot ≡ j.reel.slot → records_on j.reel + length items ≤ records_on next.reel → IsShort next (come (puts_on j.reel.slot items) s)
put_counted j next items s short few room same counts = record {
  tapes = put_short j.reel.slot items s short (omega (arith, few, room));
  hand = counted_at next.phase next (come (puts_on j.reel.slot items) s)
      (subst (λ (k : ℕ). length ((come (puts_on j.reel.slot items) s).tape k) ≤ records_on next.reel) (sym same) (omega (arith, put_long j.reel.slot items s j.reel.slot, few, counts)));
}

few_records : (j : JobFields) → HasForms j → HasRoom 1 1 (counts_on j.port j.reel) → records_on j.reel + 2 ≤ 4294967295
few_records j form room = omega (arith, room, form.capacity, form.job.marks)

few_stay : (j : JobFields) → HasForms j → j.reel.blocks * 16384 ≤ j.port.capacity → records_on j.reel + 3 ≤ 4294967295
few_stay j form few = omega (arith, few, form.capacity, form.job.marks)

less_room : (b m f cap : ℕ) → (b + 2) * 16384 + (m + 2) * f ≤ cap → (b + 1) * 16384 + (m + 1) * f ≤ cap
less_room b m f cap room = omega (arith, room)

-- ---- each event

-- the tape step
begun_few : (label : Option LabelFields) (head : DumpHeadFields) → length (begun label head) ≤ 3
begun_few None head = omega arith
begun_few (Some label) head = omega arith

begun_counts : (label : Option LabelFields) (head : DumpHeadFields) (reel : Reel) → records_on reel + length (begun label head) ≤ records_on (reel_begun label reel)
begun_counts None head reel = omega arith
begun_counts (Some label) head reel = omega arith

begun_slot : (label : Option LabelFields) (reel : Reel) → (reel_begun label reel).slot ≡ reel.slot
begun_slot None reel = refl
begun_slot (Some label) reel = refl

take_few : (n : ℕ) (xs : List Record) → length (take n xs) ≤ n
take_few zero xs = omega arith
take_few (suc n) [] = omega arith
take_few (suc n) (x ∷ xs) = omega (arith, take_few n xs)

take_less : (n : ℕ) (xs : List Record) → length (take n xs) ≤ length xs
take_less zero xs = omega arith
take_less (suc n) [] = omega arith
take_less (suc n) (x ∷ xs) = omega (arith, take_less n xs)

cut_short : (slot n : ℕ) (s : State) → AreShort s.tape → AreShort (comes (cuts slot n) s).tape
cut_short slot n s short k = elim (cases_Bool (k == slot)) [
  | inl hit ↦ rw hit (omega (arith, take_less n (s.tape k), short k))
  | inr miss ↦ rw miss (short k)
]

cut_few : (slot n : ℕ) (s : State) → length ((comes (cuts slot n) s).tape slot) ≤ n
cut_few slot n s = by (slot == slot) (eq_self slot)
  where
    eq_self : (k : ℕ) → (k == k) ≡ true
    eq_self k = grind (arith, nat_tests)

    by : (b : Bool) → b ≡ true → length (if b then take n (s.tape slot) else s.tape slot) ≤ n
    by true is = take_few n (s.tape slot)
    by false is = absurd (cc)

tape_short : (uses : ℕ) (j : JobFields) (s : State) → HasForms j → j.phase ≡ phase.Tape → AreShort s.tape → IsShort (taped uses j) (come (tape_event uses j).effects s)
tape_short uses j s form at short =
    let few = (subst (λ (p : Phase). IsAt p j) at form.job.at).few in
    put_counted j (taped uses j) (tape_items uses j) (comes (cuts j.reel.slot (records_on j.reel)) s) (cut_short j.reel.slot (records_on j.reel) s short) (cut_few j.reel.slot (records_on j.reel) s)
    (omega (arith, begun_few j.label (head_with uses j.head), few_stay j form few)) (begun_slot j.label j.reel) (begun_counts j.label (head_with uses j.head) j.reel)

-- a clone puts nothing
by_clone : (e : Option VolEntry) (c : Option Taken) (j : JobFields) (s : State) → IsShort j s → length (s.tape j.reel.slot) ≤ records_on j.reel → IsShort (clone_by e c j).job (come (clone_by e c j).effects s)
by_clone (Some e) (Some c) j s is few = record { tapes = is.tapes; hand = few }
by_clone (Some e) None j s is few = is
by_clone None taken j s is few = is

by_place : (cell : List Stored) (place : Option ℕ) (j : JobFields) (s : State) → IsShort j s → length (s.tape j.reel.slot) ≤ records_on j.reel → IsShort (clone_from cell place j).job (come (clone_from cell place j).effects s)
by_place cell None j s is few = is
by_place cell (Some place) j s is few = by_clone (entry_at cell place) (clone_at cell place j.time) j s is few

-- commits leave the tapes
commit_tapes : (changes : List Change) (s : State) → (come (committing changes) s).tape ≡ s.tape
commit_tapes [] s = refl
commit_tapes (c ∷ cs) s = refl

over_or_tape : (b : Bool) (refused next : JobFields) (s : State) → AreShort s.tape → IsCountedAt refused.phase refused s → IsCountedAt next.phase next s → IsShort (if b then refused else next) s
over_or_tape true refused next s short first second = record { tapes = short; hand = first }
over_or_tape false refused next s short first second = record { tapes = short; hand = second }

closing_tapes : (items : List Item) (changes : List Change) (size : ℕ) (j next refused : JobFields) (told : StepAnswer) (s : State) → AreShort s.tape → length (s.tape j.reel.slot) ≤ records_on j.reel → records_on j.reel + length items ≤ 4294967295
    → AreShort (come (closing items changes size j next told refused).effects s).tape
closing_tapes items changes size j next refused told s short few room =
    let put : AreShort (come (puts_on j.reel.slot items) s).tape = put_short j.reel.slot items s short (omega (arith, few, room)) in
    rw (come_append (puts_on j.reel.slot items) (committing (made_of size changes)) s) (subst AreShort (sym (commit_tapes (made_of size changes) (come (puts_on j.reel.slot items) s))) put)

by_choice : (cut : Bool) (c : Option Chosen) (size : ℕ) (j : JobFields) (s : State) → AreShort s.tape → length (s.tape j.reel.slot) ≤ records_on j.reel → records_on j.reel + 2 ≤ 4294967295
    → IsShort (part_end_by cut c size j).job (come (part_end_by cut c size j).effects s)
by_choice cut None size j s short few room = put_counted j (part_refused j) (part_end_items 1 j) s short few room refl (omega arith)
by_choice cut (Some c) size j s short few room =
    over_or_tape (is_too_long size (next_changes (Some c))) (part_refused j) (part_passed cut c j) (come (part_end_by cut (Some c) size j).effects s)
    (closing_tapes (part_end_items 1 j) (next_changes (Some c)) size j (part_passed cut c j) (part_refused j) answers.More s short few room) tt tt

part_end_short : (cut : Bool) (a : Around) (j : JobFields) (s : State) → AreShort s.tape → length (s.tape j.reel.slot) ≤ records_on j.reel → records_on j.reel + 2 ≤ 4294967295
    → IsShort (part_end_event cut a j).job (come (part_end_event cut a j).effects s)
part_end_short cut a j s short few room = by_choice cut (next_choice a.listed a.slots j) a.log_size j s short few room

dump_end_short : (size : ℕ) (j : JobFields) (s : State) → AreShort s.tape → length (s.tape j.reel.slot) ≤ records_on j.reel → records_on j.reel + 2 ≤ 4294967295
    → IsShort (dump_end_event size j).job (come (dump_end_event size j).effects s)
dump_end_short size j s short few room =
    over_or_tape (is_too_long size (done_changes j)) (dump_ended j) (dump_ended j) (come (dump_end_event size j).effects s)
    (closing_tapes (part_end_items 0 j) (done_changes j) size j (dump_ended j) (dump_ended j) (answers.Done j.head.id) s short few room) tt tt

-- the volume in hand
by_head : (b : Bool) (a : Around) (h : Hand) (j : JobFields) (s : State) → AreShort s.tape → length (s.tape j.reel.slot) ≤ records_on j.reel → records_on j.reel + 2 ≤ 4294967295
    → let e = (if b then putting (head_items h) j (headed h j) else part_end_event false a j) in IsShort e.job (come e.effects s)
by_head true a h j s short few room = put_counted j (headed h j) (head_items h) s short few (omega (arith, room)) refl (omega arith)
by_head false a h j s short few room = part_end_short false a j s short few room

by_piece : (b : Bool) (h : Hand) (j : JobFields) (s : State) → AreShort s.tape → length (s.tape j.reel.slot) ≤ records_on j.reel → records_on j.reel + 2 ≤ 4294967295
    → let e = (if b then putting (piece_items h) j (pieced h j) else putting (end_items 0 h) j (volume_cut j)) in IsShort e.job (come e.effects s)
by_piece true h j s short few room = put_counted j (pieced h j) (piece_items h) s short few (omega (arith, room)) refl (omega arith)
by_piece false h j s short few room = put_counted j (volume_cut j) (end_items 0 h) s short few room refl (omega arith)

by_hand : (step : Hand → Event) (hand : Option Hand) (j : JobFields) (s : State) → IsShort j s → ((h : Hand) → IsShort (step h).job (come (step h).effects s)) → IsShort (hand_event step hand j).job (come (hand_event step hand j).effects s)
by_hand step None j s is each = is
by_hand step (Some h) j s is each = each h

by_phase : (p : Phase) (a : Around) (j : JobFields) (s : State) → HasForms j → j.phase ≡ p → IsShort j s → IsAt p j → IsCountedAt p j s → IsShort (event_by p a j).job (come (event_by p a j).effects s)
by_phase phase.Tape a j s form at is ready few = tape_short (uses_for j (items_at a.slots j.reel.slot)) j s form at is.tapes
by_phase phase.Clone a j s form at is ready few = by_place a.cell (slice_get j.places (length (volumes_done j))) j s is few
by_phase phase.Head a j s form at is ready few = by_hand (λ h. head_event a h j) j.hand j s is (λ h. by_head (has_room 4 2 (counts_on j.port j.reel)) a h j s is.tapes few (few_records j form ready.room))
by_phase phase.Piece a j s form at is ready few =
    by_hand (λ h. piece_event h j) j.hand j s is (λ h. by_piece (has_room 3 2 (counts_on j.port j.reel)) h j s is.tapes few (few_records j form (less_room j.reel.blocks j.reel.marks j.port.filemark j.port.capacity ready.room)))
by_phase phase.VolumeEnd a j s form at is ready few =
    by_hand (λ h. putting (end_items 1 h) j (volume_ended h j)) j.hand j s is
    (λ h. put_counted j (volume_ended h j) (end_items 1 h) s is.tapes few (few_records j form (less_room j.reel.blocks j.reel.marks j.port.filemark j.port.capacity ready.room)) refl (omega arith))
by_phase phase.PartEnd a j s form at is ready few = part_end_short true a j s is.tapes few (few_records j form ready.room)
by_phase phase.DumpEnd a j s form at is ready few = dump_end_short a.log_size j s is.tapes few (few_records j form ready)
by_phase phase.Over a j s form at is ready few = is

event_short : (a : Around) (j : JobFields) (s : State) → HasForms j → IsShort j s → IsShort (event a j).job (come (event a j).effects s)
event_short a j s form is = by_phase j.phase a j s form refl is form.job.at is.hand

-- ---- the course

by_answer : (more : Bool) (p : Point) (e : Event) (rest : Course) → AreShort (come e.effects p.state).tape → AreShort (come rest.effects (come e.effects p.state)).tape
    → let c = if more then event_then e rest else last_event p e in AreShort (come c.effects p.state).tape
by_answer true p e rest first others = rw (come_append e.effects rest.effects p.state) others
by_answer false p e rest first others = first

within_short : (n : ℕ) (s : Scene) (p : Point) → All IsStoredForm s.cell → HasForms p.job → IsShort p.job p.state → AreShort (come (course_within n s p).effects p.state).tape
within_short zero s p cell form is = (event_short (around s p) p.job p.state form is).tapes
within_short (suc n) s p cell form is =
    let e : Event = next_event s p in
    let next : IsShort e.job (come e.effects p.state) = event_short (around s p) p.job p.state form is in
    by_answer (goes_on e.answer) p e (course_within n s (behind p e)) next.tapes (within_short n s (behind p e) cell (next_forms s p cell form).job next)

course_short : (s : Scene) (p : Point) → All IsStoredForm s.cell → HasForms p.job → IsShort p.job p.state → AreShort (come (course s p).effects p.state).tape
unfolding course
course_short s p cell form is = within_short (events_left s.cell p.job) s p cell form is

-- ---- the command

module _ (s : Scene) (log : AreChanges s.log) (cell : All IsStoredForm s.cell) (short : AreShort s.state.tape) where
  abbrev Stays : Answer → Type 0
  Stays a = AreShort (come a.effects s.state).tape

  begun_short : (o : DumpOrder) (t : FirstTape) → IsOrderForm o → 1 ≤ length o.volumes → tape_for s o ≡ Ok t → Stays (begun_answer s o t)
  unfolding begun_answer tape_for
  begun_short o t order some is =
      let forms = begin_forms o (database_in s) (slots_in s) (whole_in s) _ t order some (forms_after s.log log).listed (tapes_fit s.slots s.present s.state.tape) is in
      rw (come_append (commit_of s o t) (course s (begun_point s o t)).effects s.state) (course_short s (begun_point s o t) cell forms.1 (record { tapes = short; hand = tt }))

  by_tape : (o : DumpOrder) (r : Result FirstTape JobFault) → IsOrderForm o → 1 ≤ length o.volumes → tape_for s o ≡ r → Stays (begun_or s o r)
  by_tape o (Ok t) order some is = begun_short o t order some is
  by_tape o (Err f) order some is = short

  by_refusal : (o : DumpOrder) (r : Option (List ℕ)) → IsOrderForm o → refusal_by (entries_in s) o (fault_of (tape_for s o)) ≡ r → Stays (refused_or s r (begun_or s o (tape_for s o)))
  by_refusal o (Some text) order is = short
  by_refusal o None order is = by_tape o (tape_for s o) order (some_volumes (entries_in s) o (fault_of (tape_for s o)) is) refl

  by_trial_refusal : (r : Option (List ℕ)) (text : List ℕ) → Stays (refused_or s r (said s text))
  by_trial_refusal (Some line) text = short
  by_trial_refusal None text = short

  by_trial : (o : DumpOrder) (trial : Bool) → IsOrderForm o → Stays (if trial then trial_answer s o else real_answer s o)
  unfolding real_answer
  by_trial o true order = by_trial_refusal (trial_refusal (entries_in s) o) (trial_text (database_in s).listed s.cell o)
  by_trial o false order = by_refusal o (refusal_by (entries_in s) o (fault_of (tape_for s o))) order refl

  by_port : (a : DumpCommand) (r : Result PortFields (List ℕ)) → ((port : PortFields) → r ≡ Ok port → IsOrderForm (order_of s.config (database_in s) (entries_in s) s.time a port)) → Stays (port_answer s a r)
  unfolding order_answer
  by_port a (Err text) order = short
  by_port a (Ok port) order = by_trial (order_of s.config (database_in s) (entries_in s) s.time a port) a.trial (order port refl)

  pub answer_short : (a : DumpCommand) → ((port : PortFields) → asked_port s.config (database_in s) a ≡ Ok port → IsOrderForm (order_of s.config (database_in s) (entries_in s) s.time a port)) → Stays (dump_answer s a)
  unfolding dump_answer
  answer_short a order = by_port a (asked_port s.config (database_in s) a) order
