-- WHAT A GROUP TELLS at its end, and what is told of its dumps later.
use Rattle.std.specs.Prelude.{◌≡◌, ℕ, ◌+◌, ◌<◌, List, [], ◌∷◌, ◌++◌, length, Option, Some, None, slice_get, codes}
use Rattle.std.specs.List.{flat_map}
use Rattle.budb_changes.specs.declared.records.DumpRecordFields.{DumpRecordFields}
use Rattle.dump_job.specs.declared.fields.JobFields.{JobFields}
use Rattle.dump_job.specs.Ending.{done_record}
use Rattle.job_pool.specs.declared.ends.JobEnd.{JobEnd}
use Rattle.job_pool.specs.declared.ends.JobEnd.TheVariants as ends
use Rattle.job_pool.specs.declared.jobs.PoolJob.{PoolJob}
use Rattle.backup_words.specs.declared.command.DumpCommand.{DumpCommand}
use Rattle.backup_replies.specs.Texts.{ok_line}
use Rattle.backup_replies.specs.Restores.{made_line}
use Rattle.backup_replies.specs.Groups.{killed_line, job_line}
use Rattle.dump_commands.specs.Refusals.{fault_line}
use Rattle.group_commands.specs.declared.began.Began.{Began}
use Rattle.group_commands.specs.declared.began.Began.TheVariants.{Refused, Runs}
use Rattle.group_commands.specs.declared.told.ToldJob.{ToldJob}
use Rattle.group_commands.specs.declared.told.JobState.{JobState}
use Rattle.group_commands.specs.declared.told.JobState.TheVariants as state

-- ---- at the end

-- The line of a dump that was made. It tells what the dump has recorded, also where another dump of the group has forgotten that record since.
abbrev pub record_line : DumpRecordFields → List ℕ
record_line d = made_line d.id d.set d.level d.parent (length d.volumes) (length d.tapes)

-- how a held dump ended, which counts from 1: its line, its refusal, or that it was killed; nothing of one that runs
abbrev pub end_text : ℕ → DumpCommand → JobFields → Option JobEnd → List ℕ
end_text number a j None = []
end_text number a j (Some (ends.Done id)) = record_line (done_record j)
end_text number a j (Some (ends.Refused fault)) = fault_line a.set a.offset fault
end_text number a j (Some (ends.Killed id)) = killed_line number id

-- the same, of a dump of the pool
abbrev pub job_text : ℕ → DumpCommand → Option PoolJob → List ℕ
job_text number a None = []
job_text number a (Some q) = end_text number a q.job q.end

-- what is told of a held dump: the refusal of its begin, or how it ended
abbrev pub held_text : ℕ → DumpCommand → Began → List PoolJob → List ℕ
held_text number a (Refused text) jobs = text
held_text number a (Runs n) jobs = job_text number a (slice_get jobs n)

-- what is told of held dumps, in order, the first of which has this number
abbrev pub held_texts : ℕ → List DumpCommand → List Began → List PoolJob → List ℕ
held_texts number [] began jobs = []
held_texts number (a ∷ held) [] jobs = []
held_texts number (a ∷ held) (x ∷ began) jobs = held_text number a x jobs ++ held_texts (number + 1) held began jobs

-- each held dump that was begun is one of the pool
abbrev pub AreOfPool : List Began → List PoolJob → Type 0
AreOfPool began jobs = (i n : ℕ) → slice_get began i ≡ Some (Runs n) → n < length jobs

-- ---- later

-- how a dump ended, in a word
abbrev pub state_of : JobEnd → JobState
state_of (ends.Done id) = state.Done
state_of (ends.Refused fault) = state.Refused
state_of (ends.Killed id) = state.Killed

-- a dump that has ended, in front of others
abbrev pub told_ended : ℕ → JobFields → Option JobEnd → List ToldJob → List ToldJob
told_ended number j None rest = rest
told_ended number j (Some end) rest = record { number = number; id = j.head.id; set = j.head.set; level = j.head.level; state = state_of end } ∷ rest

-- the same, of a dump of the pool
abbrev pub told_job : ℕ → Option PoolJob → List ToldJob → List ToldJob
told_job number None rest = rest
told_job number (Some q) rest = told_ended number q.job q.end rest

-- one that was begun, in front of others
abbrev pub told_held : ℕ → Began → List PoolJob → List ToldJob → List ToldJob
told_held number (Refused text) jobs rest = rest
told_held number (Runs n) jobs rest = told_job number (slice_get jobs n) rest

-- the dumps that were begun, by the numbers under which they were held
abbrev pub told_jobs : ℕ → List Began → List PoolJob → List ToldJob
told_jobs number [] jobs = []
told_jobs number (x ∷ began) jobs = told_held number x jobs (told_jobs (number + 1) began jobs)

-- the word of a state
abbrev pub state_word : JobState → List ℕ
state_word state.Done = codes "done"
state_word state.Refused = codes "refused"
state_word state.Killed = codes "killed"

-- the line of a dump of the last group
abbrev pub told_line : ToldJob → List ℕ
told_line j = job_line j.number j.id j.set j.level (state_word j.state)

-- WHAT `jobs` TELLS of the dumps of the last group.
abbrev pub jobs_lines : List ToldJob → List ℕ
jobs_lines jobs = flat_map told_line jobs ++ ok_line
