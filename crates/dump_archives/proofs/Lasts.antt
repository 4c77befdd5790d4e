-- Behind its last event a dump is over.
use Rattle.std.proofs.Common.{◌≡◌, ℕ, Bool, true, false, Option, Some, None, refl, sym, ◌∙◌}
use Rattle.std.specs.Prelude.{if◌then◌else◌}
use Rattle.tape_choice.specs.declared.choosing.Chosen.{Chosen}
use Rattle.dump_job.specs.declared.answer.StepAnswer.{StepAnswer}
use Rattle.dump_job.specs.declared.fields.Hand.{Hand}
use Rattle.dump_job.specs.declared.fields.JobFields.{JobFields}
use Rattle.dump_job.specs.declared.fields.Phase.{Phase}
use Rattle.dump_job.specs.declared.fields.Phase.TheVariants as phase
use Rattle.dump_job.specs.Reels.{counts_on, has_room}
use Rattle.dump_job.specs.Volumes.{end_items, volume_ended}
use Rattle.dump_job.specs.Passing.{next_choice, next_changes, part_passed, part_refused}
use Rattle.dump_job.specs.Closing.{is_too_long, done_changes, dump_ended}
use Rattle.dump_job.specs.Events.{Around, Event, putting, part_end_by, head_event, piece_event, hand_event, event_by, event}
use Rattle.dump_courses.specs.Courses.{goes_on}
use Rattle.dump_archives.proofs.Fields.{IsRunning}

-- where an event is the last one
abbrev pub EndsOver : Event → Type 0
EndsOver e = goes_on e.answer ≡ false → e.job.phase ≡ phase.Over

no_end : true ≡ false → ⊥
no_end e = cc

closing_over : (long : Bool) (refused next : JobFields) (told other : StepAnswer) → refused.phase ≡ phase.Over → goes_on other ≡ true → goes_on (if long then told else other) ≡ false → (if long then refused else next).phase ≡ phase.Over
closing_over true refused next told other over more last = over
closing_over false refused next told other over more last = absurd (no_end (sym more ∙ last))

either_over : (long : Bool) (j k : JobFields) → j.phase ≡ phase.Over → k.phase ≡ phase.Over → (if long then j else k).phase ≡ phase.Over
either_over true j k a b = a
either_over false j k a b = b

part_over : (cut : Bool) (o : Option Chosen) (size : ℕ) (j : JobFields) → EndsOver (part_end_by cut o size j)
part_over cut None size j last = refl
part_over cut (Some c) size j last = closing_over (is_too_long size (next_changes (Some c))) (part_refused j) (part_passed cut c j) _ _ refl refl last

hand_over : (step : Hand → Event) (hand : Option Hand) (j : JobFields) → (hand ≡ None → ⊥) → ((h : Hand) → EndsOver (step h)) → EndsOver (hand_event step hand j)
hand_over step None j some each last = absurd (some refl)
hand_over step (Some h) j some each last = each h last

head_over : (room : Bool) (a : Around) (h : Hand) (j : JobFields) → has_room 4 2 (counts_on j.port j.reel) ≡ room → EndsOver (head_event a h j)
head_over true a h j room = rw room (λ last. absurd (no_end last))
head_over false a h j room = rw room (part_over false (next_choice a.listed a.slots j) a.log_size j)

piece_over : (room : Bool) (h : Hand) (j : JobFields) → has_room 3 2 (counts_on j.port j.reel) ≡ room → EndsOver (piece_event h j)
piece_over true h j room = rw room (λ last. absurd (no_end last))
piece_over false h j room = rw room (λ last. absurd (no_end last))

-- what an event of each phase needs: a volume to clone, or one in hand
abbrev pub Finds : Phase → Around → JobFields → Type 0
Finds phase.Tape a j = Unit {0}
Finds phase.Clone a j = goes_on (event_by phase.Clone a j).answer ≡ true
Finds phase.Head a j = j.hand ≡ None → ⊥
Finds phase.Piece a j = j.hand ≡ None → ⊥
Finds phase.VolumeEnd a j = j.hand ≡ None → ⊥
Finds phase.PartEnd a j = Unit {0}
Finds phase.DumpEnd a j = Unit {0}
Finds phase.Over a j = Unit {0}

phase_over : (p : Phase) (a : Around) (j : JobFields) → IsRunning p → Finds p a j → EndsOver (event_by p a j)
phase_over phase.Tape a j run finds last = absurd (no_end last)
phase_over phase.Clone a j run finds last = absurd (no_end (sym finds ∙ last))
phase_over phase.Head a j run finds last = hand_over (λ h. head_event a h j) j.hand j finds (λ h. head_over (has_room 4 2 (counts_on j.port j.reel)) a h j refl) last
phase_over phase.Piece a j run finds last = hand_over (λ h. piece_event h j) j.hand j finds (λ h. piece_over (has_room 3 2 (counts_on j.port j.reel)) h j refl) last
phase_over phase.VolumeEnd a j run finds last = hand_over (λ h. putting (end_items 1 h) j (volume_ended h j)) j.hand j finds (λ h also. absurd (no_end also)) last
phase_over phase.PartEnd a j run finds last = part_over true (next_choice a.listed a.slots j) a.log_size j last
phase_over phase.DumpEnd a j run finds last = either_over (is_too_long a.log_size (done_changes j)) (dump_ended j) (dump_ended j) refl refl
phase_over phase.Over a j run finds last = absurd run

pub event_over : (a : Around) (j : JobFields) → IsRunning j.phase → Finds j.phase a j → EndsOver (event a j)
event_over a j run finds = phase_over j.phase a j run finds
