-- A course leaves all settled: between two events no more than the tape in hand isn't, and behind a part not even that.
use Rattle.std.proofs.Common.{◌≡◌, ℕ, ◌+◌, List, [], ◌∷◌, ◌++◌, length, Bool, true, false, refl, sym, subst}
use Rattle.std.specs.Prelude.{if◌then◌else◌, Option, Some, None, nat_lt, ◌==◌, slice_get}
use Rattle.vnode_model.specs.declared.listed.VolEntry.{VolEntry}
use Rattle.cell_core.specs.declared.stored.Stored.{Stored}
use Rattle.cell_core.specs.declared.stored.Taken.{Taken}
use Rattle.cell_core.specs.Calls.{entry_at, clone_at}
use Rattle.plant_core.specs.Crashes.{State, IsSettled}
use Rattle.plant_core.specs.Effects.{cuts, come}
use Rattle.plant_effects.proofs.States.{come_append}
use Rattle.tape_text.specs.Items.{Says}
use Rattle.tape_frames.specs.declared.frame.Frame.TheVariants as frames
use Rattle.tape_frames.specs.declared.label.LabelFields.{LabelFields}
use Rattle.tape_writer.specs.Puts.{puts_on}
use Rattle.tape_choice.specs.declared.choosing.Chosen.{Chosen}
use Rattle.budb_changes.specs.declared.change.Change.{Change}
use Rattle.budb_changes.specs.Bytes.{encoded}
use Rattle.dump_job.specs.declared.answer.StepAnswer.{StepAnswer}
use Rattle.dump_job.specs.declared.answer.StepAnswer.TheVariants as answer
use Rattle.dump_job.specs.declared.fields.Hand.{Hand}
use Rattle.dump_job.specs.declared.fields.Reel.{Reel}
use Rattle.dump_job.specs.declared.fields.JobFields.{JobFields}
use Rattle.dump_job.specs.declared.fields.Phase.{Phase}
use Rattle.dump_job.specs.declared.fields.Phase.TheVariants as phase
use Rattle.dump_job.specs.Reels.{counts_on, has_room}
use Rattle.dump_job.specs.Taping.{uses_for, tape_items, reel_begun, taped, phase_begun}
use Rattle.dump_job.specs.Cloning.{volumes_done}
use Rattle.dump_job.specs.Volumes.{phase_behind, head_items, headed, piece_items, pieced, end_items, volume_ended, volume_cut}
use Rattle.dump_job.specs.Ending.{part_end, part_end_items}
use Rattle.dump_job.specs.Passing.{next_choice, next_changes, part_passed, part_refused}
use Rattle.dump_job.specs.Closing.{committing, made_of, done_changes, dump_ended}
use Rattle.dump_job.specs.Events.{Around, Event, putting, items_at, closing, clone_by, clone_from, part_end_by, part_end_event, head_event, piece_event, hand_event, event_by, event}
use Rattle.dump_courses.specs.Scenes.{Scene}
use Rattle.dump_courses.specs.Courses.{Point, next_event, behind}
use Rattle.dump_courses.specs.Settled.{IsSettledBut, IsSettledAt, IsSettledFor}
use Rattle.dump_courses.proofs.Settling.{settled_but, cut_settled, commit_settled, puts_settled, end_settled}

-- all settled is enough at each
whole_at : (p : Phase) (slot : ℕ) (s : State) → IsSettled s → IsSettledAt p slot s
whole_at phase.Tape slot s is = is
whole_at phase.Clone slot s is = settled_but slot s is
whole_at phase.Head slot s is = settled_but slot s is
whole_at phase.Piece slot s is = settled_but slot s is
whole_at phase.VolumeEnd slot s is = settled_but slot s is
whole_at phase.PartEnd slot s is = settled_but slot s is
whole_at phase.DumpEnd slot s is = settled_but slot s is
whole_at phase.Over slot s is = is

-- an event leaves it so
abbrev pub Leaves : Event → State → Type 0
Leaves e s = IsSettledFor e.job (come e.effects s)

-- ---- a part is begun

begun_slot : (label : Option LabelFields) (reel : Reel) → (reel_begun label reel).slot ≡ reel.slot
begun_slot None reel = refl
begun_slot (Some label) reel = refl

begun_at : (hand : Option Hand) (slot : ℕ) (s : State) → IsSettledBut slot s → IsSettledAt (phase_begun hand) slot s
begun_at None slot s is = is
begun_at (Some h) slot s is = is

tape_settled : (uses : ℕ) (j : JobFields) (n : ℕ) (s : State) → IsSettled s → IsSettledFor (taped uses j) (come (cuts j.reel.slot n ∷ puts_on j.reel.slot (tape_items uses j)) s)
tape_settled uses j n s is =
    let cut : IsSettled (come (cuts j.reel.slot n ∷ []) s) = cut_settled j.reel.slot n s (settled_but j.reel.slot s is) in
    subst (λ (k : ℕ). IsSettledAt (phase_begun j.hand) k (come (cuts j.reel.slot n ∷ puts_on j.reel.slot (tape_items uses j)) s)) (sym (begun_slot j.label j.reel))
    (begun_at j.hand j.reel.slot (come (cuts j.reel.slot n ∷ puts_on j.reel.slot (tape_items uses j)) s)
    (puts_settled j.reel.slot (tape_items uses j) (come (cuts j.reel.slot n ∷ []) s) (settled_but j.reel.slot (come (cuts j.reel.slot n ∷ []) s) cut)))

-- ---- a part is ended

commits_settled : (changes : List Change) (s : State) → IsSettled s → IsSettled (come (committing changes) s)
commits_settled [] s is = is
commits_settled (c ∷ changes) s is = commit_settled (encoded (c ∷ changes)) s is

ended_settled : (more : ℕ) (changes : List Change) (j : JobFields) (s : State) → IsSettledBut j.reel.slot s → IsSettled (come (puts_on j.reel.slot (part_end_items more j) ++ committing changes) s)
ended_settled more changes j s is =
    subst (λ (t : State). IsSettled t) (sym (come_append (puts_on j.reel.slot (part_end_items more j)) (committing changes) s))
    (commits_settled changes (come (puts_on j.reel.slot (part_end_items more j)) s) (end_settled j.reel.slot (Says (frames.DumpEnd (part_end more j))) s is))

closing_settled : (more : ℕ) (changes : List Change) (size : ℕ) (j next : JobFields) (told : StepAnswer) (refused : JobFields) (s : State) → IsSettledBut j.reel.slot s → Leaves (closing (part_end_items more j) changes size j next told refused) s
closing_settled more changes size j next told refused s is =
    let e : Event = closing (part_end_items more j) changes size j next told refused in
    whole_at e.job.phase e.job.reel.slot (come e.effects s) (ended_settled more (made_of size changes) j s is)

part_settled : (cut : Bool) (choice : Option Chosen) (size : ℕ) (j : JobFields) (s : State) → IsSettledBut j.reel.slot s → Leaves (part_end_by cut choice size j) s
part_settled cut None size j s is = end_settled j.reel.slot (Says (frames.DumpEnd (part_end 1 j))) s is
part_settled cut (Some c) size j s is = closing_settled 1 (next_changes (Some c)) size j (part_passed cut c j) answer.More (part_refused j) s is

-- ---- the volume in hand

behind_settled : (left : List ℕ) (slot : ℕ) (s : State) → IsSettledBut slot s → IsSettledAt (phase_behind left) slot s
behind_settled left slot s is = by (length left == 0)
  where
    by : (b : Bool) → IsSettledAt (if b then phase.VolumeEnd else phase.Piece) slot s
    by true = is
    by false = is

if_settled : (b : Bool) (x y : Event) (s : State) → Leaves x s → Leaves y s → Leaves (if b then x else y) s
if_settled true x y s one other = one
if_settled false x y s one other = other

ended_at : (b : Bool) (slot : ℕ) (s : State) → IsSettledBut slot s → IsSettledAt (if b then phase.Clone else phase.DumpEnd) slot s
ended_at true slot s is = is
ended_at false slot s is = is

head_settled : (a : Around) (h : Hand) (j : JobFields) (s : State) → IsSettledBut j.reel.slot s → Leaves (head_event a h j) s
head_settled a h j s is =
    if_settled (has_room 4 2 (counts_on j.port j.reel)) (putting (head_items h) j (headed h j)) (part_end_event false a j) s
    (behind_settled h.stream j.reel.slot (come (puts_on j.reel.slot (head_items h)) s) (puts_settled j.reel.slot (head_items h) s is))
    (part_settled false (next_choice a.listed a.slots j) a.log_size j s is)

piece_settled : (h : Hand) (j : JobFields) (s : State) → IsSettledBut j.reel.slot s → Leaves (piece_event h j) s
piece_settled h j s is =
    if_settled (has_room 3 2 (counts_on j.port j.reel)) (putting (piece_items h) j (pieced h j)) (putting (end_items 0 h) j (volume_cut j)) s
    (behind_settled _ j.reel.slot (come (puts_on j.reel.slot (piece_items h)) s) (puts_settled j.reel.slot (piece_items h) s is))
    (puts_settled j.reel.slot (end_items 0 h) s is)

end_settles : (h : Hand) (j : JobFields) (s : State) → IsSettledBut j.reel.slot s → Leaves (putting (end_items 1 h) j (volume_ended h j)) s
end_settles h j s is = ended_at (nat_lt (h.head.index + 1) (length j.places)) j.reel.slot (come (puts_on j.reel.slot (end_items 1 h)) s) (puts_settled j.reel.slot (end_items 1 h) s is)

-- ---- each event

hand_settled : (step : Hand → Event) (hand : Option Hand) (j : JobFields) (s : State) → IsSettledFor j s → ((h : Hand) → Leaves (step h) s) → Leaves (hand_event step hand j) s
hand_settled step None j s is falls = is
hand_settled step (Some h) j s is falls = falls h

clone_by_settled : (e : Option VolEntry) (c : Option Taken) (j : JobFields) (s : State) → IsSettledFor j s → IsSettledBut j.reel.slot s → Leaves (clone_by e c j) s
clone_by_settled (Some e) (Some c) j s is but = but
clone_by_settled (Some e) None j s is but = is
clone_by_settled None c j s is but = is

clone_from_settled : (cell : List Stored) (place : Option ℕ) (j : JobFields) (s : State) → IsSettledFor j s → IsSettledBut j.reel.slot s → Leaves (clone_from cell place j) s
clone_from_settled cell None j s is but = is
clone_from_settled cell (Some place) j s is but = clone_by_settled (entry_at cell place) (clone_at cell place j.time) j s is but

by_phase : (p : Phase) (a : Around) (j : JobFields) (s : State) → IsSettledFor j s → IsSettledAt p j.reel.slot s → Leaves (event_by p a j) s
by_phase phase.Tape a j s at is = tape_settled (uses_for j (items_at a.slots j.reel.slot)) j _ s is
by_phase phase.Clone a j s at is = clone_from_settled a.cell (slice_get j.places (length (volumes_done j))) j s at is
by_phase phase.Head a j s at is = hand_settled (λ h. head_event a h j) j.hand j s at (λ h. head_settled a h j s is)
by_phase phase.Piece a j s at is = hand_settled (λ h. piece_event h j) j.hand j s at (λ h. piece_settled h j s is)
by_phase phase.VolumeEnd a j s at is = hand_settled (λ h. putting (end_items 1 h) j (volume_ended h j)) j.hand j s at (λ h. end_settles h j s is)
by_phase phase.PartEnd a j s at is = part_settled true (next_choice a.listed a.slots j) a.log_size j s is
by_phase phase.DumpEnd a j s at is = closing_settled 0 (done_changes j) a.log_size j (dump_ended j) (answer.Done j.head.id) (dump_ended j) s is
by_phase phase.Over a j s at is = at

pub event_settled : (a : Around) (j : JobFields) (s : State) → IsSettledFor j s → IsSettledFor (event a j).job (come (event a j).effects s)
event_settled a j s is = by_phase j.phase a j s is is

pub behind_settled_point : (s : Scene) (p : Point) → IsSettledFor p.job p.state → IsSettledFor (behind p (next_event s p)).job (behind p (next_event s p)).state
behind_settled_point s p is = event_settled _ p.job p.state is

-- behind the last event
pub settled_over : (j : JobFields) (s : State) → j.phase ≡ phase.Over → IsSettledFor j s → IsSettled s
settled_over j s over is = subst (λ (p : Phase). IsSettledAt p j.reel.slot s) over is
