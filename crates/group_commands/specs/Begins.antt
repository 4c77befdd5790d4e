-- HOW A GROUP GOES: its dumps begin one after the other, and then they take turns by its schedule. All is one list of effects.
use Rattle.std.specs.Prelude.{ℕ, max, List, [], ◌∷◌, ◌++◌, length, Option, Some, None, Result, Ok, Err, slice_get}
use Rattle.budb_changes.specs.declared.change.Change.{Change}
use Rattle.budb_changes.specs.Bytes.{encoded}
use Rattle.budb_fold.specs.Database.{after}
use Rattle.plant_core.specs.Effects.{commits}
use Rattle.dump_job.specs.declared.fields.JobFields.{JobFields}
use Rattle.dump_job.specs.Beginning.{new_id, begin_changes, begun_job}
use Rattle.dump_courses.specs.Scenes.{Scene}
use Rattle.backup_words.specs.declared.command.DumpCommand.{DumpCommand}
use Rattle.dump_commands.specs.Answers.{Contents, contents_with}
use Rattle.dump_commands.specs.Starts.{Start, dump_start}
use Rattle.job_pool.specs.declared.turn.Kill.{Kill as PoolKill}
use Rattle.job_pool.specs.Pools.{PoolPoint, PoolEvent, PoolCourse, behind}
use Rattle.job_pool.specs.PoolCourses.{pool_course}
use Rattle.group_commands.specs.declared.began.Began.{Began}
use Rattle.group_commands.specs.declared.began.Began.TheVariants.{Refused, Runs}

-- ---- one begin

-- the id of a dump that begins behind these changes
abbrev pub id_in : List Change → Start → ℕ
id_in log b = new_id b.order.time (after log).greatest

-- what such a dump has before its first step
abbrev pub job_in : List Change → Start → JobFields
job_in log b = begun_job b.order (after log).listed (id_in log b) b.tape

-- Its begin: one commit, and the dump is the last one, before its first step.
abbrev pub start_in : List Change → PoolPoint → Start → PoolEvent
start_in log p b = record {
  effects = commits (encoded (begin_changes (id_in log b) b.tape.take)) ∷ [];
  changes = begin_changes (id_in log b) b.tape.take;
  jobs = p.jobs ++ record { job = job_in log b; steps = 0; end = None } ∷ [];
}

-- the begin of a dump at a point
abbrev pub start_event : PoolPoint → Start → PoolEvent
start_event p b = start_in p.log p b

-- ---- begins, and the turns behind them

-- begins, one after the other, and then the rest
abbrev pub started : (PoolPoint → PoolCourse) → PoolPoint → List Start → PoolCourse
started rest p [] = rest p
started rest p (b ∷ starts) =
    let e = start_event p b in
    let more = started rest (behind p e) starts in
    record { effects = e.effects ++ more.effects; log = more.log; jobs = more.jobs }

-- A GROUP: its begins, and its turns by a schedule.
abbrev pub group_course : Scene → List PoolKill → ℕ → PoolPoint → List Start → PoolCourse
group_course s kills x p starts = started (pool_course s kills x) p starts

-- ---- which of the held dumps begin

-- The scene at a point on the way of a group: its journal and its plant are those of the point, and its time stays that of the group's end.
abbrev pub scene_at : Scene → PoolPoint → Scene
scene_at s p = record s { log = p.log; state = p.state }

-- the point before the first begin
abbrev pub first_point : Scene → PoolPoint
first_point s = record { log = s.log; state = s.state; jobs = [] }

-- the point behind what becomes of a held dump: where it is refused nothing of it is left
abbrev pub behind_begin : PoolPoint → Result Start (List ℕ) → PoolPoint
behind_begin p (Ok b) = behind p (start_event p b)
behind_begin p (Err text) = p

-- a held dump that begins, by its number in the pool; or the text of its refusal
abbrev pub began_as : PoolPoint → Result Start (List ℕ) → Began
began_as p (Ok b) = Runs (length p.jobs)
began_as p (Err text) = Refused text

-- WHAT BECOMES OF EACH HELD DUMP at the end of its group: it is checked as a dump alone is, on what the begins before it left.
abbrev pub begins : Scene → PoolPoint → List DumpCommand → List Began
begins s p [] = []
begins s p (a ∷ held) = let r = dump_start (scene_at s p) a in began_as p r ∷ begins s (behind_begin p r) held

-- this dump in front of others, where it begins
abbrev pub before_starts : Result Start (List ℕ) → List Start → List Start
before_starts (Ok b) starts = b ∷ starts
before_starts (Err text) starts = starts

-- the dumps that begin, in order
abbrev pub starts_of : Scene → PoolPoint → List DumpCommand → List Start
starts_of s p [] = []
starts_of s p (a ∷ held) = let r = dump_start (scene_at s p) a in before_starts r (starts_of s (behind_begin p r) held)

-- the point behind all begins
abbrev pub point_behind : Scene → PoolPoint → List DumpCommand → PoolPoint
point_behind s p [] = p
point_behind s p (a ∷ held) = point_behind s (behind_begin p (dump_start (scene_at s p) a)) held

-- ---- the kills of those that begin

-- the number in the pool of a held dump, where it begins
abbrev pub number_of : Option Began → Option ℕ
number_of None = None
number_of (Some (Refused text)) = None
number_of (Some (Runs number)) = Some number

-- a kill of the dump of this number, in front of others; none of a dump that was refused
abbrev pub with_kill : Option ℕ → ℕ → List PoolKill → List PoolKill
with_kill None after kills = kills
with_kill (Some number) after kills = record { job = number; after = after } ∷ kills

-- the kills of the held dumps that begin, by their numbers in the pool
abbrev pub kills_of : List Began → List PoolKill → List PoolKill
kills_of began [] = []
kills_of began (k ∷ kills) = with_kill (number_of (slice_get began k.job)) k.after (kills_of began kills)

-- ---- the time, and what dumps have

-- the session's time behind begins, which takes in each id that was begun
abbrev pub time_behind : ℕ → PoolPoint → List Start → ℕ
time_behind time p [] = time
time_behind time p (b ∷ starts) = time_behind (max time (id_in p.log b)) (behind p (start_event p b)) starts

-- What dumps have of volumes behind begins: under each new id what a dump of its order has, as it is when it begins; all else is as before.
abbrev pub contents_behind : Scene → PoolPoint → List Start → Contents → Contents
contents_behind s p [] contents = contents
contents_behind s p (b ∷ starts) contents = contents_behind s (behind p (start_event p b)) starts (contents_with (scene_at s p) b.order contents)
