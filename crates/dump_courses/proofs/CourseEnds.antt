-- How a course ends: behind its last event the dump is over, and all is settled.
use Rattle.std.proofs.Common.{◌≡◌, zero, suc, ℕ, List, Bool, true, false, Option, Some, None, refl, sym, ◌∙◌, ap, subst, true≢false}
use Rattle.std.specs.Prelude.{length, slice_get, if◌then◌else◌}
use Rattle.vnode_model.specs.declared.listed.VolEntry.{VolEntry}
use Rattle.cell_core.specs.declared.stored.Stored.{Stored}
use Rattle.cell_core.specs.declared.stored.Taken.{Taken}
use Rattle.cell_core.specs.Calls.{entry_at, clone_at}
use Rattle.plant_core.specs.Crashes.{State, IsSettled}
use Rattle.plant_core.specs.Effects.{come}
use Rattle.plant_effects.proofs.States.{come_append}
use Rattle.tape_text.specs.Items.{Item}
use Rattle.tape_choice.specs.declared.choosing.Chosen.{Chosen}
use Rattle.dump_job.specs.declared.answer.StepAnswer.{StepAnswer}
use Rattle.dump_job.specs.declared.answer.StepAnswer.TheVariants as answer
use Rattle.dump_job.specs.declared.fields.Hand.{Hand}
use Rattle.dump_job.specs.declared.fields.JobFields.{JobFields}
use Rattle.dump_job.specs.declared.fields.Phase.{Phase}
use Rattle.dump_job.specs.declared.fields.Phase.TheVariants as phase
use Rattle.dump_job.specs.Reels.{counts_on, has_room}
use Rattle.dump_job.specs.Cloning.{volumes_done}
use Rattle.dump_job.specs.Volumes.{head_items, headed, piece_items, pieced, end_items, volume_ended, volume_cut}
use Rattle.dump_job.specs.Passing.{next_choice, next_changes, part_passed, part_refused}
use Rattle.dump_job.specs.Closing.{is_too_long, done_changes, dump_ended}
use Rattle.dump_job.specs.Events.{Around, Event, putting, clone_by, clone_from, part_end_by, part_end_event, head_event, piece_event, hand_event, event_by, event}
use Rattle.dump_courses.specs.declared.running.End.{End}
use Rattle.dump_courses.specs.declared.running.End.TheVariants.{Made, Refused}
use Rattle.dump_courses.specs.Scenes.{Scene}
use Rattle.dump_courses.specs.Courses.{Point, around, next_event, behind, Course, goes_on, last_event, event_then, course_within, events_left, course}
use Rattle.dump_courses.specs.Settled.{IsSettledFor}
use Rattle.dump_courses.specs.Running.{answer_of}
use Rattle.dump_courses.proofs.SettledCourses.{behind_settled_point, settled_over}

-- a dump is done, or refused
abbrev is_end : StepAnswer → Bool
is_end answer.More = false
is_end (answer.Done id) = true
is_end (answer.Refused fault) = true
is_end answer.PlantFailed = false
is_end answer.CellFailed = false
is_end answer.Memory = false

end_is : (end : End) → is_end (answer_of end) ≡ true
end_is (Made id) = refl
end_is (Refused fault) = refl

-- any other answer is no end's
not_end : (a : StepAnswer) (end : End) → is_end a ≡ false → a ≡ answer_of end → ⊥
not_end a end none told = true≢false (sym (end_is end) ∙ ap is_end (sym told) ∙ none)

more_not : (end : End) → answer.More ≡ answer_of end → ⊥
more_not end told = not_end answer.More end refl told

cell_not : (end : End) → answer.CellFailed ≡ answer_of end → ⊥
cell_not end told = not_end answer.CellFailed end refl told

memory_not : (end : End) → answer.Memory ≡ answer_of end → ⊥
memory_not end told = not_end answer.Memory end refl told

-- ---- the last event

-- where an event answers how the dump ended, the dump is over
abbrev EndsOver : Event → Type 0
EndsOver e = (end : End) → e.answer ≡ answer_of end → e.job.phase ≡ phase.Over

putting_over : (items : List Item) (j next : JobFields) → EndsOver (putting items j next)
putting_over items j next end told = absurd (more_not end told)

if_over : (b : Bool) (x y : Event) → EndsOver x → EndsOver y → EndsOver (if b then x else y)
if_over true x y one other = one
if_over false x y one other = other

long_over : (long : Bool) (refused next : JobFields) (fault : StepAnswer) (end : End) → refused.phase ≡ phase.Over → (if long then fault else answer.More) ≡ answer_of end → (if long then refused else next).phase ≡ phase.Over
long_over true refused next fault end over told = over
long_over false refused next fault end over told = absurd (more_not end told)

either_over : (long : Bool) (j k : JobFields) → j.phase ≡ phase.Over → k.phase ≡ phase.Over → (if long then j else k).phase ≡ phase.Over
either_over true j k one other = one
either_over false j k one other = other

part_over : (cut : Bool) (o : Option Chosen) (size : ℕ) (j : JobFields) → EndsOver (part_end_by cut o size j)
part_over cut None size j end told = refl
part_over cut (Some c) size j end told = long_over (is_too_long size (next_changes (Some c))) (part_refused j) (part_passed cut c j) _ end refl told

hand_over : (step : Hand → Event) (hand : Option Hand) (j : JobFields) → ((h : Hand) → EndsOver (step h)) → EndsOver (hand_event step hand j)
hand_over step None j each end told = absurd (memory_not end told)
hand_over step (Some h) j each end told = each h end told

head_over : (a : Around) (h : Hand) (j : JobFields) → EndsOver (head_event a h j)
head_over a h j =
    if_over (has_room 4 2 (counts_on j.port j.reel)) (putting (head_items h) j (headed h j)) (part_end_event false a j)
    (putting_over (head_items h) j (headed h j)) (part_over false (next_choice a.listed a.slots j) a.log_size j)

piece_over : (h : Hand) (j : JobFields) → EndsOver (piece_event h j)
piece_over h j =
    if_over (has_room 3 2 (counts_on j.port j.reel)) (putting (piece_items h) j (pieced h j)) (putting (end_items 0 h) j (volume_cut j))
    (putting_over (piece_items h) j (pieced h j)) (putting_over (end_items 0 h) j (volume_cut j))

clone_by_over : (e : Option VolEntry) (c : Option Taken) (j : JobFields) → EndsOver (clone_by e c j)
clone_by_over (Some e) (Some c) j end told = absurd (more_not end told)
clone_by_over (Some e) None j end told = absurd (cell_not end told)
clone_by_over None c j end told = absurd (cell_not end told)

clone_over : (cell : List Stored) (place : Option ℕ) (j : JobFields) → EndsOver (clone_from cell place j)
clone_over cell None j end told = absurd (cell_not end told)
clone_over cell (Some place) j end told = clone_by_over (entry_at cell place) (clone_at cell place j.time) j end told

over_at : (p : Phase) (a : Around) (j : JobFields) → EndsOver (event_by p a j)
over_at phase.Tape a j end told = absurd (more_not end told)
over_at phase.Clone a j end told = clone_over a.cell (slice_get j.places (length (volumes_done j))) j end told
over_at phase.Head a j end told = hand_over (λ h. head_event a h j) j.hand j (λ h. head_over a h j) end told
over_at phase.Piece a j end told = hand_over (λ h. piece_event h j) j.hand j (λ h. piece_over h j) end told
over_at phase.VolumeEnd a j end told = hand_over (λ h. putting (end_items 1 h) j (volume_ended h j)) j.hand j (λ h. putting_over (end_items 1 h) j (volume_ended h j)) end told
over_at phase.PartEnd a j end told = part_over true (next_choice a.listed a.slots j) a.log_size j end told
over_at phase.DumpEnd a j end told = either_over (is_too_long a.log_size (done_changes j)) (dump_ended j) (dump_ended j) refl refl
over_at phase.Over a j end told = absurd (memory_not end told)

pub event_over : (a : Around) (j : JobFields) (end : End) → (event a j).answer ≡ answer_of end → (event a j).job.phase ≡ phase.Over
event_over a j = over_at j.phase a j

-- ---- the course

last_settled : (s : Scene) (p : Point) (end : End) → IsSettledFor p.job p.state → (next_event s p).answer ≡ answer_of end → IsSettled (come (next_event s p).effects p.state)
last_settled s p end is told =
    settled_over (next_event s p).job (come (next_event s p).effects p.state) (event_over (around s p) p.job end told) (behind_settled_point s p is)

by_going : (more : Bool) (p : Point) (e : Event) (rest : Course) (end : End) → (e.answer ≡ answer_of end → IsSettled (come e.effects p.state)) → (rest.answer ≡ answer_of end → IsSettled (come rest.effects (come e.effects p.state)))
    → let c = if more then event_then e rest else last_event p e in c.answer ≡ answer_of end → IsSettled (come c.effects p.state)
by_going true p e rest end last others told = subst IsSettled (sym (come_append e.effects rest.effects p.state)) (others told)
by_going false p e rest end last others told = last told

within_settled : (n : ℕ) (s : Scene) (p : Point) (end : End) → IsSettledFor p.job p.state → (course_within n s p).answer ≡ answer_of end → IsSettled (come (course_within n s p).effects p.state)
within_settled zero s p end is told = last_settled s p end is told
within_settled (suc n) s p end is told =
    by_going (goes_on (next_event s p).answer) p (next_event s p) (course_within n s (behind p (next_event s p))) end
    (last_settled s p end is) (within_settled n s (behind p (next_event s p)) end (behind_settled_point s p is)) told

pub course_settled : (s : Scene) (p : Point) (end : End) → IsSettledFor p.job p.state → (course s p).answer ≡ answer_of end → IsSettled (come (course s p).effects p.state)
unfolding course
course_settled s p end is told = within_settled (events_left s.cell p.job) s p end is told
