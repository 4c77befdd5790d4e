-- The effects of a command tell nothing: all that is told of it is its reply.
use Rattle.std.proofs.Common.{◌≡◌, ◌≤◌, ℕ, zero, suc, Bool, true, false, Option, Some, None, List, [], ◌∷◌, ◌++◌, length, refl, sym, ◌∙◌, ap, append_assoc}
use Rattle.std.specs.Prelude.{nat_lt, if◌then◌else◌, slice_get, Result, Ok, Err, IfOk}
use Rattle.std.specs.List.{fold}
use Rattle.plant_core.specs.declared.plant.Plant.{Ghosts as Plant}
use Rattle.plant_core.specs.Crashes.{State}
use Rattle.plant_core.specs.Effects.{Effect, commits, replaces, tells, puts, settles, cuts, told_by}
use Rattle.vnode_model.specs.declared.listed.VolEntry.{VolEntry}
use Rattle.cell_core.specs.declared.cell.Cell.{Ghosts as Cell}
use Rattle.cell_core.specs.declared.stored.Stored.{Stored}
use Rattle.cell_core.specs.declared.stored.Taken.{Taken}
use Rattle.cell_core.specs.Calls.{entry_at, clone_at}
use Rattle.tape_config.specs.declared.port.PortFields.{PortFields}
use Rattle.tape_frames.specs.declared.label.LabelFields.{LabelFields}
use Rattle.tape_text.specs.Items.{Item, Says, Filemark, Nothing}
use Rattle.tape_writer.specs.Puts.{put_on, puts_on}
use Rattle.tape_answers.specs.Assembling.{found_in}
use Rattle.budb_changes.specs.declared.records.DumpRecordFields.{DumpRecordFields}
use Rattle.budb_changes.specs.declared.change.Change.{Change}
use Rattle.budb_changes.specs.declared.change.Change.TheVariants as change
use Rattle.budb_changes.specs.Bytes.{encoded}
use Rattle.budb_fold.specs.Database.{after, has_dump}
use Rattle.budb_fold.specs.Checkpoints.{checkpoint}
use Rattle.dump_job.specs.declared.answer.StepAnswer.{StepAnswer}
use Rattle.dump_job.specs.declared.answer.StepAnswer.TheVariants as answers
use Rattle.dump_job.specs.declared.first_tapes.FirstTape.{FirstTape}
use Rattle.dump_job.specs.declared.order.DumpOrder.{DumpOrder}
use Rattle.dump_job.specs.declared.fields.Hand.{Hand}
use Rattle.dump_job.specs.declared.fields.JobFields.{JobFields}
use Rattle.dump_job.specs.declared.fields.Phase.{Phase}
use Rattle.dump_job.specs.declared.fields.Phase.TheVariants as phase
use Rattle.dump_job.specs.Reels.{counts_on, has_room}
use Rattle.dump_job.specs.Taping.{uses_for, tape_items}
use Rattle.dump_job.specs.Cloning.{volumes_done}
use Rattle.dump_job.specs.Volumes.{head_items, headed, piece_items, pieced, end_items, volume_ended, volume_cut}
use Rattle.dump_job.specs.Ending.{part_end_items}
use Rattle.dump_job.specs.Passing.{next_choice, next_changes, part_passed, part_refused}
use Rattle.dump_job.specs.Closing.{committing, made_of, done_changes, dump_ended}
use Rattle.dump_job.specs.Events.{Around, Event, putting, items_at, clone_by, clone_from, closing, part_end_by, part_end_event, dump_end_event, head_event, piece_event, hand_event, event_by, event}
use Rattle.tape_choice.specs.declared.choosing.Chosen.{Chosen}
use Rattle.tape_choice.specs.Choice.{permanent_in}
use Rattle.budb_save.specs.declared.choosing.Picked.{Picked}
use Rattle.budb_save.specs.Saves.{save_label}
use Rattle.backup_words.specs.declared.command.DumpCommand.{DumpCommand}
use Rattle.dump_job.specs.Settling.{last_cut}
use Rattle.dump_courses.specs.Scenes.{Scene}
use Rattle.dump_courses.specs.Courses.{Point, Course, around, next_event, behind, goes_on, last_event, event_then, course_within, events_left, course}
use Rattle.dump_commands.specs.Answers.{Answer, begun_point, begun, dump_answer}
use Rattle.dump_commands.proofs.LeftForms.{by_answer}
use Rattle.dump_commands.specs.Starts.{Start}
use Rattle.job_pool.specs.declared.ends.JobEnd.{JobEnd}
use Rattle.job_pool.specs.declared.jobs.PoolJob.{PoolJob}
use Rattle.job_pool.specs.declared.turn.Kill.{Kill}
use Rattle.job_pool.specs.declared.turn.Turn.{Turn as PoolTurn}
use Rattle.job_pool.specs.declared.turn.Turn.TheVariants as turns
use Rattle.job_pool.specs.Pools.{PoolPoint, PoolEvent, PoolCourse, point_of, settling_at, step_event, kill_event, unless_ended, step_at, kill_at, turn_event, behind as pool_behind, interleaved}
use Rattle.job_pool.specs.PoolCourses.{scheduled, turns_left, pool_course}
use Rattle.group_commands.specs.Groups.{GroupView}
use Rattle.group_commands.specs.Begins.{start_event, started, first_point, begins, starts_of, kills_of}
use Rattle.group_commands.specs.Answers.{group_answer}
use Rattle.backup_words.specs.declared.command.Command.{Command}
use Rattle.backup_words.specs.declared.command.Command.TheVariants as commands
use Rattle.backup_words.specs.declared.command.GroupCommand.{GroupCommand}
use Rattle.backup_words.specs.declared.command.GroupCommand.TheVariants as groups
use Rattle.backup_words.specs.declared.command.TapeCommand.{TapeCommand}
use Rattle.backup_words.specs.declared.command.TapeCommand.TheVariants.{Labeltape, Readlabel, Scantape, Savedb, Restoredb}
use Rattle.backup_session.specs.declared.verdict.Verdict.{Verdict}
use Rattle.backup_session.specs.declared.verdict.Verdict.TheVariants.{Refuses, Makes, Shortens, Shows}
use Rattle.backup_session.specs.Views.{SessionView, ReplyView}
use Rattle.backup_session.specs.Worlds.{World, Turn, before_reply, at_moment}
use Rattle.backup_session.specs.Turns.{length_with}
use Rattle.backup_session.specs.Verdicts.{verdict}
use Rattle.backup_session.specs.Labels.{label_of}
use Rattle.backup_session.specs.Scanning.{port_of, slots_here, scans_of, Step, says, has_wrong_parent, added, added_if, with_dump, adding, dumps_turn, slots_turn, scan_turn}
use Rattle.backup_session.specs.Saves.{saved_in_slot, saved_turn, back_turn}
use Rattle.backup_session.specs.Tapes.{slot_of, read_turn, new_label, taken, labeled, label_turn, tape_turn}
use Rattle.backup_session.specs.Dumps.{scene_of, dump_turn}
use Rattle.backup_session.specs.Groups.{group_in, in_group, group_alone}
use Rattle.backup_session.specs.Machine.{carried, alone, done_in, done, turn}
use Rattle.backup_session.specs.Fitting.{TurnDone, SomeTurnDone}
use Rattle.backup_session.proofs.SaveTurns.{save_silent, by_save, by_back}

-- ---- effects that tell nothing

abbrev IsSilent : List Effect → Type 0
IsSilent es = told_by es ≡ []

pub told_by-append : (es fs : List Effect) → told_by (es ++ fs) ≡ told_by es ++ told_by fs
told_by-append [] fs = refl
told_by-append (tells text ∷ es) fs = ap (λ (l : List ℕ). text ++ l) (told_by-append es fs) ∙ sym (append_assoc text (told_by es) (told_by fs))
told_by-append (commits bytes ∷ es) fs = told_by-append es fs
told_by-append (replaces bytes ∷ es) fs = told_by-append es fs
told_by-append (puts k r ∷ es) fs = told_by-append es fs
told_by-append (settles k ∷ es) fs = told_by-append es fs
told_by-append (cuts k n ∷ es) fs = told_by-append es fs

both : (es fs : List Effect) → IsSilent es → IsSilent fs → IsSilent (es ++ fs)
both es fs first second = told_by-append es fs ∙ ap (λ (l : List ℕ). l ++ told_by fs) first ∙ second

-- one of two, whichever it is
picked : {T : Type 0} (Q : T → Type 0) (b : Bool) (x y : T) → Q x → Q y → Q (if b then x else y)
picked Q true x y is_x is_y = is_x
picked Q false x y is_x is_y = is_y

-- ---- the events of a dump

put_silent : (k : ℕ) (i : Item) → IsSilent (put_on k i)
put_silent k (Says f) = refl
put_silent k Filemark = refl
put_silent k Nothing = refl

puts_silent : (k : ℕ) (items : List Item) → IsSilent (puts_on k items)
unfolding puts_on
puts_silent k [] = refl
puts_silent k (i ∷ is) = both (put_on k i) (puts_on k is) (put_silent k i) (puts_silent k is)

clone_silent : (e : Option VolEntry) (c : Option Taken) (j : JobFields) → IsSilent (clone_by e c j).effects
clone_silent (Some e) (Some c) j = refl
clone_silent (Some e) None j = refl
clone_silent None taken j = refl

place_silent : (cell : List Stored) (place : Option ℕ) (j : JobFields) → IsSilent (clone_from cell place j).effects
place_silent cell None j = refl
place_silent cell (Some place) j = clone_silent (entry_at cell place) (clone_at cell place j.time) j

commit_silent : (changes : List Change) → IsSilent (committing changes)
commit_silent [] = refl
commit_silent (c ∷ cs) = refl

closing_silent : (items : List Item) (changes : List Change) (size : ℕ) (j next : JobFields) (told : StepAnswer) (refused : JobFields) → IsSilent (closing items changes size j next told refused).effects
closing_silent items changes size j next told refused =
    both (puts_on j.reel.slot items) (committing (made_of size changes)) (puts_silent j.reel.slot items) (commit_silent (made_of size changes))

choice_silent : (cut : Bool) (c : Option Chosen) (size : ℕ) (j : JobFields) → IsSilent (part_end_by cut c size j).effects
choice_silent cut None size j = puts_silent j.reel.slot (part_end_items 1 j)
choice_silent cut (Some c) size j = closing_silent (part_end_items 1 j) (next_changes (Some c)) size j (part_passed cut c j) answers.More (part_refused j)

part_end_silent : (cut : Bool) (a : Around) (j : JobFields) → IsSilent (part_end_event cut a j).effects
part_end_silent cut a j = choice_silent cut (next_choice a.listed a.slots j) a.log_size j

dump_end_silent : (size : ℕ) (j : JobFields) → IsSilent (dump_end_event size j).effects
dump_end_silent size j = closing_silent (part_end_items 0 j) (done_changes j) size j (dump_ended j) (answers.Done j.head.id) (dump_ended j)

one_event : (b : Bool) (d e : Event) → IsSilent d.effects → IsSilent e.effects → IsSilent (if b then d else e).effects
one_event = picked (λ (e : Event). IsSilent e.effects)

head_silent : (a : Around) (h : Hand) (j : JobFields) → IsSilent (head_event a h j).effects
head_silent a h j = one_event (has_room 4 2 (counts_on j.port j.reel)) (putting (head_items h) j (headed h j)) (part_end_event false a j) (puts_silent j.reel.slot (head_items h)) (part_end_silent false a j)

piece_silent : (h : Hand) (j : JobFields) → IsSilent (piece_event h j).effects
piece_silent h j =
    one_event (has_room 3 2 (counts_on j.port j.reel)) (putting (piece_items h) j (pieced h j)) (putting (end_items 0 h) j (volume_cut j)) (puts_silent j.reel.slot (piece_items h)) (puts_silent j.reel.slot (end_items 0 h))

hand_silent : (step : Hand → Event) (hand : Option Hand) (j : JobFields) → ((h : Hand) → IsSilent (step h).effects) → IsSilent (hand_event step hand j).effects
hand_silent step None j each = refl
hand_silent step (Some h) j each = each h

phase_silent : (p : Phase) (a : Around) (j : JobFields) → IsSilent (event_by p a j).effects
phase_silent phase.Tape a j = puts_silent j.reel.slot (tape_items (uses_for j (items_at a.slots j.reel.slot)) j)
phase_silent phase.Clone a j = place_silent a.cell (slice_get j.places (length (volumes_done j))) j
phase_silent phase.Head a j = hand_silent (λ h. head_event a h j) j.hand j (λ h. head_silent a h j)
phase_silent phase.Piece a j = hand_silent (λ h. piece_event h j) j.hand j (λ h. piece_silent h j)
phase_silent phase.VolumeEnd a j = hand_silent (λ h. putting (end_items 1 h) j (volume_ended h j)) j.hand j (λ h. puts_silent j.reel.slot (end_items 1 h))
phase_silent phase.PartEnd a j = part_end_silent true a j
phase_silent phase.DumpEnd a j = dump_end_silent a.log_size j
phase_silent phase.Over a j = refl

event_silent : (a : Around) (j : JobFields) → IsSilent (event a j).effects
event_silent a j = phase_silent j.phase a j

-- ---- the course of a dump

more_silent : (more : Bool) (p : Point) (e : Event) (rest : Course) → IsSilent e.effects → IsSilent rest.effects → IsSilent (if more then event_then e rest else last_event p e).effects
more_silent true p e rest first others = both e.effects rest.effects first others
more_silent false p e rest first others = first

within_silent : (n : ℕ) (s : Scene) (p : Point) → IsSilent (course_within n s p).effects
within_silent zero s p = event_silent (around s p) p.job
within_silent (suc n) s p =
    let e : Event = next_event s p in
    more_silent (goes_on e.answer) p e (course_within n s (behind p e)) (event_silent (around s p) p.job) (within_silent n s (behind p e))

course_silent : (s : Scene) (p : Point) → IsSilent (course s p).effects
unfolding course
course_silent s p = within_silent (events_left s.cell p.job) s p

begun_silent : (s : Scene) (o : DumpOrder) (t : FirstTape) → IsSilent (begun s o t).effects
unfolding begun
begun_silent s o t = course_silent s (begun_point s o t)

answer_silent : (s : Scene) (a : DumpCommand) → IsSilent (dump_answer s a).effects
answer_silent s a = by_answer s (λ (x : Answer). IsSilent x.effects) (λ text. refl) (λ o t. begun_silent s o t) a

-- ---- the turns of a group

settling_silent : (k : Option ℕ) (s : State) → IsSilent (settling_at k s)
settling_silent None s = refl
settling_silent (Some k) s = refl

ended_silent : (end : Option JobEnd) (p : PoolPoint) (e : PoolEvent) → IsSilent e.effects → IsSilent (unless_ended end p e).effects
ended_silent None p e is = is
ended_silent (Some end) p e is = refl

step_silent : (s : Scene) (p : PoolPoint) (n : ℕ) (q : Option PoolJob) → IsSilent (step_at s p n q).effects
step_silent s p n None = refl
step_silent s p n (Some q) = ended_silent q.end p (step_event s p n q) (event_silent (around s (point_of p q)) q.job)

kill_silent : (p : PoolPoint) (n : ℕ) (q : Option PoolJob) → IsSilent (kill_at p n q).effects
kill_silent p n None = refl
kill_silent p n (Some q) = ended_silent q.end p (kill_event p n q) (settling_silent (last_cut q.job) p.state)

one_turn_silent : (s : Scene) (p : PoolPoint) (t : PoolTurn) → IsSilent (turn_event s p t).effects
one_turn_silent s p (turns.Step n) = step_silent s p n (slice_get p.jobs n)
one_turn_silent s p (turns.Kill n) = kill_silent p n (slice_get p.jobs n)

interleaved_silent : (s : Scene) (p : PoolPoint) (ts : List PoolTurn) → IsSilent (interleaved s p ts).effects
interleaved_silent s p [] = refl
interleaved_silent s p (t ∷ ts) =
    let e = turn_event s p t in
    both e.effects (interleaved s (pool_behind p e) ts).effects (one_turn_silent s p t) (interleaved_silent s (pool_behind p e) ts)

pool_silent : (s : Scene) (kills : List Kill) (x : ℕ) (p : PoolPoint) → IsSilent (pool_course s kills x p).effects
unfolding pool_course
pool_silent s kills x p = interleaved_silent s p (scheduled (turns_left s.cell p.jobs) s kills x p)

started_silent : (rest : PoolPoint → PoolCourse) → ((p : PoolPoint) → IsSilent (rest p).effects) → (p : PoolPoint) (starts : List Start) → IsSilent (started rest p starts).effects
started_silent rest each p [] = each p
started_silent rest each p (b ∷ starts) =
    let e = start_event p b in
    both e.effects (started rest (pool_behind p e) starts).effects refl (started_silent rest each (pool_behind p e) starts)

group_silent : (s : Scene) (g : GroupView) → IsSilent (group_answer s g).answer.effects
unfolding group_answer
group_silent s g =
    let kills = kills_of (begins s (first_point s) g.held) g.kills in
    started_silent (pool_course s kills g.schedule) (pool_silent s kills g.schedule) (first_point s) (starts_of s (first_point s) g.held)

-- ---- scans

one_step : (b : Bool) (s t : Step) → IsSilent s.turn.effects → IsSilent t.turn.effects → IsSilent (if b then s else t).turn.effects
one_step = picked (λ (s : Step). IsSilent s.turn.effects)

added_silent : (w : World) (d : DumpRecordFields) → IsSilent (added w d).turn.effects
added_silent w d = one_step (nat_lt 268435456 (length_with w (change.Found d ∷ []))) _ _ refl refl

one_silent : (w : World) (full : Bool) (d : DumpRecordFields) → IsSilent (added_if w full d).turn.effects
one_silent w full d = one_step (has_dump (after w.log).listed d.id) _ _ refl (one_step (has_wrong_parent d) _ _ refl (one_step full _ _ refl (added_silent w d)))

steps_silent : (w : World) (s : Step) (ds : List DumpRecordFields) → IsSilent s.turn.effects → IsSilent (fold (with_dump w) s ds).turn.effects
steps_silent w s [] so_far = so_far
steps_silent w s (d ∷ ds) so_far =
    let here = before_reply w s.turn in
    steps_silent w (with_dump w s d) ds (both s.turn.effects (added_if here s.full d).turn.effects so_far (one_silent here s.full d))

adding_silent : (w : World) (ds : List DumpRecordFields) → IsSilent (adding w ds).turn.effects
unfolding adding
adding_silent w ds = steps_silent w (says w false []) ds refl

dumps_silent : (w : World) (dbadd : Bool) (ds : List DumpRecordFields) → IsSilent (dumps_turn w dbadd ds).effects
dumps_silent w true ds = adding_silent w ds
dumps_silent w false ds = refl

slots_silent : (w : World) (dbadd : Bool) (slots : List ℕ) → IsSilent (slots_turn w dbadd slots).effects
unfolding slots_turn
slots_silent w dbadd slots = dumps_silent w dbadd (found_in (scans_of w.state.tape slots)).whole

scan_silent : (w : World) (dbadd : Bool) (port : Result PortFields (List ℕ)) → IsSilent (scan_turn w dbadd port).effects
scan_silent w dbadd (Err text) = refl
scan_silent w dbadd (Ok port) = slots_silent w dbadd (slots_here w.setting.present port)

-- ---- labels

one_turn : (b : Bool) (s t : Turn) → IsSilent s.effects → IsSilent t.effects → IsSilent (if b then s else t).effects
one_turn = picked (λ (t : Turn). IsSilent t.effects)

labeled_silent : (w : World) (slot : ℕ) (a : LabelFields) (changes : List Change) → IsSilent (labeled w slot a changes).effects
labeled_silent w slot a [] = refl
labeled_silent w slot a (c ∷ cs) = one_turn (nat_lt 268435456 (length_with w (c ∷ cs))) _ _ refl refl

label_silent : (w : World) (name pname : Option (List ℕ)) (r : Result ℕ (List ℕ)) → IsSilent (label_turn w name pname r).effects
label_silent w name pname (Err text) = refl
label_silent w name pname (Ok slot) = labeled_silent w slot (new_label (label_of (w.state.tape slot)) name pname) (taken (after w.log).listed (label_of (w.state.tape slot)))

read_silent : (w : World) (r : Result ℕ (List ℕ)) → IsSilent (read_turn w r).effects
read_silent w (Err text) = refl
read_silent w (Ok slot) = refl

-- ---- saves

put_silent_on : (w : World) (p : Picked) (bytes : List ℕ) → length bytes ≤ 4000000000 → IsSilent (saved_in_slot w p bytes).effects
put_silent_on w p bytes few = save_silent p.slot (save_label (permanent_in p.label)) bytes

saved_silent : (w : World) (port : Result PortFields (List ℕ)) → IsSilent (saved_turn w port).effects
saved_silent w port = by_save w (λ (t : Turn). IsSilent t.effects) (λ text. refl) (put_silent_on w) port

back_silent : (w : World) (port : Result PortFields (List ℕ)) → IsSilent (back_turn w port).effects
back_silent w port = by_back w (λ (t : Turn). IsSilent t.effects) (λ text. refl) port (λ changes comes. refl)

-- ---- the commands

pub carried_silent : (w : World) (v : Verdict) → told_by (carried w v).effects ≡ []
carried_silent w (Refuses text) = refl
carried_silent w (Shows text) = refl
carried_silent w (Makes changes text) = one_turn (nat_lt 268435456 (length_with w changes)) _ _ refl refl
carried_silent w Shortens = one_turn (nat_lt 268435456 (length (encoded (checkpoint (after w.log))))) _ _ refl refl

pub tape_silent : (w : World) (command : TapeCommand) → told_by (tape_turn w command).effects ≡ []
tape_silent w (Labeltape name pname offset slot) = label_silent w name pname (slot_of w.setting (after w.log).hosts offset slot)
tape_silent w (Readlabel offset slot) = read_silent w (slot_of w.setting (after w.log).hosts offset slot)
tape_silent w (Scantape dbadd offset) = scan_silent w dbadd (port_of w.setting.config (after w.log).hosts offset)
tape_silent w (Savedb offset) = saved_silent w (port_of w.setting.config (after w.log).hosts offset)
tape_silent w (Restoredb offset) = back_silent w (port_of w.setting.config (after w.log).hosts offset)

pub dump_silent : (w : World) (command : DumpCommand) → told_by (dump_turn w command).effects ≡ []
dump_silent w command = answer_silent (scene_of w) command

pub group_alone_silent : (w : World) (command : GroupCommand) → told_by (group_alone w command).effects ≡ []
group_alone_silent w (groups.Together schedule) = refl
group_alone_silent w (groups.Kill job after) = refl
group_alone_silent w groups.End = refl
group_alone_silent w groups.Jobs = refl

alone_silent : (w : World) (command : Command) → told_by (alone w command).effects ≡ []
alone_silent w (commands.Database command) = carried_silent w (verdict (after w.log) command)
alone_silent w (commands.Tape command) = tape_silent w command
alone_silent w (commands.Cell command) = refl
alone_silent w (commands.Dump command) = dump_silent w command
alone_silent w (commands.Group command) = group_alone_silent w command
alone_silent w (commands.Restore command) = refl

group_in_silent : (w : World) (g : GroupView) (command : GroupCommand) → told_by (group_in w g command).effects ≡ []
group_in_silent w g (groups.Together schedule) = refl
group_in_silent w g (groups.Kill job after) = refl
group_in_silent w g groups.End = group_silent (scene_of w) g
group_in_silent w g groups.Jobs = refl

pub in_group_silent : (w : World) (g : GroupView) (command : Command) → told_by (in_group w g command).effects ≡ []
in_group_silent w g (commands.Database command) = refl
in_group_silent w g (commands.Tape command) = refl
in_group_silent w g (commands.Cell command) = refl
in_group_silent w g (commands.Dump command) = refl
in_group_silent w g (commands.Group command) = group_in_silent w g command
in_group_silent w g (commands.Restore command) = refl

in_silent : (w : World) (opened : Option GroupView) (command : Command) → told_by (done_in w opened command).effects ≡ []
in_silent w None command = alone_silent w command
in_silent w (Some g) command = in_group_silent w g command

pub done_silent : (w : World) (command : Command) → told_by (done w command).effects ≡ []
done_silent w command = in_silent w w.groups.open command

pub turn_silent : (w : World) (now : ℕ) (command : Command) → told_by (turn w now command).effects ≡ []
unfolding turn
turn_silent w now command = done_silent (at_moment w now) command

-- ---- some turn

-- a turn that was done and tells nothing is some turn
pub somehow : {D E F : Type 0} (P : Plant D) (C : Cell E) (w : World) (t : Turn) (old new : D) (site : E) (session : SessionView) (r : Result ReplyView F) → told_by t.effects ≡ []
    → IfOk r (λ reply. TurnDone P C w t old new site session reply) → IfOk r (λ reply. SomeTurnDone P C w old new site session reply)
somehow P C w t old new site session (Ok reply) silent turned = record { turn = t; turned = turned; silent = silent }
somehow P C w t old new site session (Err stop) silent turned = tt
