-- WHAT A DUMP MAKES of what it finds.
use Rattle.std.specs.Prelude.{◌≡◌, ℕ, max, List, [], ◌∷◌, ◌++◌, length, ◌==◌, if◌then◌else◌, Option, Some, None, Result, Ok, Err}
use Rattle.bk_text.specs.Blanks.{is_same_text}
use Rattle.vnode_model.specs.declared.listed.VolEntry.{VolEntry}
use Rattle.vnode_model.specs.declared.volumes.VolumeFields.{VolumeFields}
use Rattle.plant_core.specs.declared.plant.Plant.{Ghosts as Plant}
use Rattle.plant_core.specs.Crashes.{IsSettled}
use Rattle.plant_core.specs.Effects.{Effect, commits, come}
use Rattle.plant_effects.specs.Runs.{state_of}
use Rattle.cell_core.specs.declared.stored.Stored.{Stored}
use Rattle.cell_core.specs.declared.stored.Taken.{Taken}
use Rattle.cell_core.specs.Calls.{entry_at, clone_at}
use Rattle.tape_config.specs.declared.port.PortFields.{PortFields}
use Rattle.archive_model.specs.Archives.{Refusal}
use Rattle.archive_model.specs.Sources.{clone_or_refusal}
use Rattle.budb_changes.specs.declared.change.Change.{Change}
use Rattle.budb_changes.specs.declared.records.DumpRecordFields.{DumpRecordFields}
use Rattle.budb_changes.specs.Bytes.{encoded}
use Rattle.budb_fold.specs.Database.{after}
use Rattle.budb_fold.specs.Lookups.{record_of, from_of}
use Rattle.budb.specs.Views.{BudbView}
use Rattle.budb.specs.Kept.{Keeps}
use Rattle.backup_replies.specs.Restores.{made_line}
use Rattle.backup_replies.specs.Texts.{ok_line}
use Rattle.dump_job.specs.declared.answer.StepAnswer.{StepAnswer}
use Rattle.dump_job.specs.declared.answer.StepAnswer.TheVariants.{More, Done, Refused, PlantFailed, CellFailed, Memory}
use Rattle.dump_job.specs.declared.fault.JobFault.{JobFault}
use Rattle.dump_job.specs.declared.first_tapes.FirstTape.{FirstTape}
use Rattle.dump_job.specs.declared.order.DumpOrder.{DumpOrder}
use Rattle.dump_job.specs.Beginning.{id_of, begin_changes, begun_job, first_tape}
use Rattle.dump_courses.specs.declared.running.End.{End}
use Rattle.dump_courses.specs.Ahead.{IsAhead, DoneAhead}
use Rattle.dump_courses.specs.Scenes.{Scene, database_in, slots_in, entries_in, whole_in}
use Rattle.dump_courses.specs.Courses.{Point, Course, course}
use Rattle.dump_courses.specs.Running.{IsEnded, answer_of}
use Rattle.backup_words.specs.declared.command.DumpCommand.{DumpCommand}
use Rattle.dump_commands.specs.declared.told.Dumped.{Dumped}
use Rattle.dump_commands.specs.Orders.{asked_port, order_of}
use Rattle.dump_commands.specs.Refusals.{fault_line, fault_text, fault_of, refusal_by, trial_refusal}
use Rattle.dump_commands.specs.Trials.{trial_text}

-- what each dump has of a volume, by its id and the volume's name: its contents, or the refusal by which its play ends
abbrev pub Contents : Type 0
Contents = ℕ → List ℕ → Result VolumeFields Refusal

-- What comes of a dump: its effects on the plant, the reply, which is told behind them, the changes of the journal and the session's time
-- behind it, and what dumps have of volumes then. Loads of tapes are no effect: by them more may be settled than the effects say.
pub record Answer : Type 0 where
  pub effects : List Effect
  pub reply : List ℕ
  pub log : List Change
  pub time : ℕ
  pub contents : Contents → Contents

-- nothing but a reply
abbrev pub said : Scene → List ℕ → Answer
said s text = record { effects = []; reply = text; log = s.log; time = s.time; contents = λ contents. contents }

-- ---- what the dump has

-- the first of these places at which the cell has a volume of this name
abbrev pub is_at : List ℕ → Option VolEntry → Option ℕ → ℕ → Option ℕ
is_at name None rest place = rest
is_at name (Some e) rest place = if is_same_text e.name name then Some place else rest

-- the first of these places of the cell's list at which a volume has this name
abbrev pub place_of : List Stored → List ℕ → List ℕ → Option ℕ
place_of cell [] name = None
place_of cell (place ∷ places) name = is_at name (entry_at cell place) (place_of cell places name) place

-- the clone that is taken, over what the parent has of the volume
abbrev pub given_by : Scene → DumpOrder → Contents → List ℕ → Result VolumeFields Refusal → Option Taken → Result VolumeFields Refusal
given_by s o contents name before None = before
given_by s o contents name before (Some c) =
    clone_or_refusal (contents o.parent name) (from_of (record_of (database_in s).listed o.parent) name c.born) c.volume

-- the contents of a dump that has the clone at this place; at no place, what was there before
abbrev pub given_at : Scene → DumpOrder → Contents → List ℕ → Result VolumeFields Refusal → Option ℕ → Result VolumeFields Refusal
given_at s o contents name before None = before
given_at s o contents name before (Some place) = given_by s o contents name before (clone_at s.cell place o.time)

-- Under the new id each name of the order has its clone; all else is as before.
abbrev pub contents_with : Scene → DumpOrder → Contents → Contents
contents_with s o contents id name =
    if id == id_of o (database_in s) then given_at s o contents name (contents id name) (place_of s.cell o.volumes name) else contents id name

-- ---- a dump that is begun

-- the changes that begin it are one commit, and its first tape isn't cut yet
abbrev pub begin_of : Scene → DumpOrder → FirstTape → List Change
begin_of s o t = begin_changes (id_of o (database_in s)) t.take

-- the effects of a begin: the one commit of its changes
abbrev pub commit_of : Scene → DumpOrder → FirstTape → List Effect
commit_of s o t = commits (encoded (begin_of s o t)) ∷ []

-- where a dump stands after its begin: the journal with the begin's changes, the plant with their commit, and the dump's own state
abbrev pub begun_point : Scene → DumpOrder → FirstTape → Point
begun_point s o t = record {
  log = s.log ++ begin_of s o t;
  state = come (commit_of s o t) s.state;
  job = begun_job o (database_in s).listed (id_of o (database_in s)) t;
}

-- the line of the dump that is listed under an id
abbrev pub made_text : Option DumpRecordFields → List ℕ
made_text None = ok_line
made_text (Some d) = made_line d.id d.set d.level d.parent (length d.volumes) (length d.tapes) ++ ok_line

-- A dump that was begun may still be refused, by 40 or 84.
abbrev pub end_line : List ℕ → ℕ → List DumpRecordFields → StepAnswer → List ℕ
end_line set offset listed (Done id) = made_text (record_of listed id)
end_line set offset listed (Refused f) = fault_line set offset f
end_line set offset listed More = []
end_line set offset listed PlantFailed = []
end_line set offset listed CellFailed = []
end_line set offset listed Memory = []

-- what is told of a dump that has ended
abbrev pub end_text : DumpOrder → List DumpRecordFields → StepAnswer → List ℕ
end_text o listed a = end_line o.set o.port.offset listed a

-- The session's time takes in the id that was begun.
abbrev pub ended : Scene → DumpOrder → FirstTape → Course → Answer
ended s o t c = record {
  effects = commit_of s o t ++ c.effects;
  reply = end_text o (after c.log).listed c.answer;
  log = c.log;
  time = max s.time (id_of o (database_in s));
  contents = contents_with s o;
}

-- a dump that was begun goes its course, and this comes of it
unfoldable pub begun : Scene → DumpOrder → FirstTape → Answer
begun s o t = ended s o t (course s (begun_point s o t))

-- ---- the command

-- the tape on which the dump would begin, or what it is refused by
unfoldable pub tape_for : Scene → DumpOrder → Result FirstTape JobFault
tape_for s o = first_tape (database_in s) (slots_in s) (whole_in s) o (length (encoded s.log))

-- the dump is begun, or refused by what the search for its first tape was refused by
abbrev pub begun_or : Scene → DumpOrder → Result FirstTape JobFault → Answer
begun_or s o (Ok t) = begun s o t
begun_or s o (Err f) = said s (fault_text o f)

-- a refusal is told, or else this is done
abbrev pub refused_or : Scene → Option (List ℕ) → Answer → Answer
refused_or s (Some text) otherwise = said s text
refused_or s None otherwise = otherwise

-- a dump that is no trial: the first of its refusals, or the dump
unfoldable pub real_answer : Scene → DumpOrder → Answer
real_answer s o = refused_or s (refusal_by (entries_in s) o (fault_of (tape_for s o))) (begun_or s o (tape_for s o))

-- nothing is done, and no tape is asked
abbrev pub trial_answer : Scene → DumpOrder → Answer
trial_answer s o = refused_or s (trial_refusal (entries_in s) o) (said s (trial_text (database_in s).listed s.cell o))

-- an order is tried or carried out
unfoldable pub order_answer : Scene → DumpCommand → DumpOrder → Answer
order_answer s a o = if a.trial then trial_answer s o else real_answer s o

-- the port is refused, or what the command orders is answered
abbrev pub port_answer : Scene → DumpCommand → Result PortFields (List ℕ) → Answer
port_answer s a (Err text) = said s text
port_answer s a (Ok port) = order_answer s a (order_of s.config (database_in s) (entries_in s) s.time a port)

-- A DUMP.
unfoldable pub dump_answer : Scene → DumpCommand → Answer
dump_answer s a = port_answer s a (asked_port s.config (database_in s) a)

-- ---- what is owed of it

-- A dump was answered: its effects were done, and its text and the time behind it are handed back; behind it the database keeps the log. More
-- may be settled than the effects say, and all is where all was before.
pub record IsAnswered {D : Type 0} (P : Plant D) (s : Scene) (a : Answer) (budb : BudbView) (old new : D) (told : Dumped) : Type 0 where
  pub done : DoneAhead P a.effects old new
  pub text : told.text ≡ a.reply
  pub time : told.time ≡ a.time
  pub keeps : Keeps a.log (come a.effects s.state).log budb
  pub state : IsAhead (come a.effects s.state) (state_of P new)
  pub settled : IsSettled s.state → IsSettled (come a.effects s.state)

-- A dump went from this point to its end, and this was told of it.
pub record IsFinished {D : Type 0} (P : Plant D) (s : Scene) (p : Point) (set : List ℕ) (offset : ℕ) (text : List ℕ) (budb : BudbView) (old new : D) : Type 0 where
  pub end : End
  pub ended : IsEnded P s p end budb old new
  pub line : text ≡ end_line set offset budb.database.listed (answer_of end)
