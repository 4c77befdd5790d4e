-- WHAT IS SO WHILE THE HELD DUMPS OF A GROUP BEGIN, one after the other, and behind the group.
use Rattle.std.specs.Prelude.{◌≡◌, ◌≢◌, ◌<◌, ◌⊎◌, ℕ, List, [], ◌∷◌, ◌++◌, drop, Some, Result, slice_get}
use Rattle.plant_core.specs.declared.plant.Plant.{Ghosts as Plant}
use Rattle.plant_core.specs.Effects.{Effect, come}
use Rattle.plant_effects.specs.Runs.{state_of, Leaves}
use Rattle.cell_core.specs.declared.cell.Cell.{Ghosts as Cell}
use Rattle.tape_config.specs.declared.port.PortFields.{PortFields}
use Rattle.tape_config.specs.Configs.{Settings, port_in}
use Rattle.budb.specs.Views.{BudbView}
use Rattle.budb.specs.Kept.{Keeps}
use Rattle.dump_courses.specs.Ahead.{IsAhead, DoneAhead}
use Rattle.dump_courses.specs.Scenes.{Scene}
use Rattle.backup_words.specs.declared.command.DumpCommand.{DumpCommand}
use Rattle.dump_commands.specs.Starts.{Start, start_effects}
use Rattle.job_pool.specs.declared.jobs.PoolJob.{PoolJob}
use Rattle.job_pool.specs.Pools.{PoolPoint}
use Rattle.job_pool.specs.Pooled.{IsAtPool}
use Rattle.group_commands.specs.declared.began.Began.{Began}
use Rattle.group_commands.specs.Groups.{GroupView}
use Rattle.group_commands.specs.Begins.{scene_at, first_point, behind_begin, began_as, begins, starts_of, point_behind, time_behind, kills_of, group_course}
use Rattle.group_commands.specs.Beginning.{begin_effects, time_with}
use Rattle.group_commands.specs.Answers.{group_answer}

-- ---- one of them

-- What stands there is this point of the dumps of a pool, found under a configuration at a time.
pub record FindsPool {D E : Type 0} (P : Plant D) (C : Cell E) (s : Scene) (p : PoolPoint) (used : Settings) (budb : BudbView) (plant : D) (site : E) (now : ℕ) (jobs : List PoolJob) : Type 0 where
  pub config : used ≡ s.config
  pub time : now ≡ s.time
  pub at : IsAtPool P C s p budb plant site jobs

-- A held dump was begun as it is due, and is the pool's last one; or it is refused, and the pool is as it was.
pub record HasBegun {D E : Type 0} (P : Plant D) (C : Cell E) (s : Scene) (p : PoolPoint) (due : Result Start (List ℕ)) (one : Began) (time time_after : ℕ) (budb_after : BudbView) (old new : D) (site : E) (jobs : List PoolJob) : Type 0 where
  pub at : IsAtPool P C s (behind_begin p due) budb_after new site jobs
  pub done : DoneAhead P (start_effects (scene_at s p) due) old new
  pub told : one ≡ began_as p due
  pub later : time_after ≡ time_with time p due

-- The same, and what became of it is kept behind what became of those before it.
pub record HasMore {D E : Type 0} (P : Plant D) (C : Cell E) (s : Scene) (p : PoolPoint) (due : Result Start (List ℕ)) (began began_after : List Began) (time time_after : ℕ) (budb_after : BudbView) (old new : D) (site : E) (jobs : List PoolJob) : Type 0 where
  pub one : Began
  pub begun : HasBegun P C s p due one time time_after budb_after old new site jobs
  pub more : began_after ≡ began ++ one ∷ []

-- ---- some of them, and all

-- The first so many held dumps have begun or are refused, and from this point on the begins of the others are left.
pub record IsOnBegins {D E : Type 0} (P : Plant D) (C : Cell E) (s : Scene) (held : List DumpCommand) (count : ℕ) (old : D) (began : List Began) (time : ℕ) (budb : BudbView) (plant : D) (site : E) (jobs : List PoolJob) : Type 0 where
  pub effects : List Effect
  pub now : PoolPoint
  pub at : IsAtPool P C s now budb plant site jobs
  pub state : now.state ≡ come effects s.state
  pub done : DoneAhead P effects old plant
  pub leaves : Leaves P effects old plant
  pub began_rest : begins s (first_point s) held ≡ began ++ begins s now (drop count held)
  pub effects_rest : begin_effects s (first_point s) held ≡ effects ++ begin_effects s now (drop count held)
  pub point_rest : point_behind s (first_point s) held ≡ point_behind s now (drop count held)
  pub time_rest : time_behind s.time (first_point s) (starts_of s (first_point s) held) ≡ time_behind time now (starts_of s now (drop count held))

-- All held dumps have begun or are refused.
pub record AreBegun {D E : Type 0} (P : Plant D) (C : Cell E) (s : Scene) (held : List DumpCommand) (began : List Began) (time : ℕ) (budb : BudbView) (old new : D) (site : E) (jobs : List PoolJob) : Type 0 where
  pub at : IsAtPool P C s (point_behind s (first_point s) held) budb new site jobs
  pub state : (point_behind s (first_point s) held).state ≡ come (begin_effects s (first_point s) held) s.state
  pub done : DoneAhead P (begin_effects s (first_point s) held) old new
  pub leaves : Leaves P (begin_effects s (first_point s) held) old new
  pub each : began ≡ begins s (first_point s) held
  pub later : time ≡ time_behind s.time (first_point s) (starts_of s (first_point s) held)

-- ---- ports

-- a port is that of another offset of the configuration
pub record IsOfOther (config : Settings) (offset : ℕ) (port : PortFields) : Type 0 where
  pub other : ℕ
  pub unlike : offset ≢ other
  pub at : port_in other config.entries ≡ Some port

-- each dump of a pool goes to the port of another offset
abbrev pub AreOfOthers : Settings → ℕ → List PoolJob → Type 0
AreOfOthers config offset jobs = (n : ℕ) (q : PoolJob) → slice_get jobs n ≡ Some q → IsOfOther config offset q.job.port

-- a dump of a pool was there before, or it goes to the port of this offset
abbrev pub IsOldOrAt : Settings → ℕ → List PoolJob → ℕ → PoolJob → Type 0
IsOldOrAt config offset jobs n q = (slice_get jobs n ≡ Some q) ⊎ (port_in offset config.entries ≡ Some q.job.port)

-- a dump goes to the port of one of the first so many held ones
pub record IsOfHeld (config : Settings) (held : List DumpCommand) (count : ℕ) (port : PortFields) : Type 0 where
  pub place : ℕ
  pub command : DumpCommand
  pub there : slice_get held place ≡ Some command
  pub before : place < count
  pub at : port_in command.offset config.entries ≡ Some port

-- ---- the end

-- All held dumps have begun or are refused, and those that were begun took turns until none ran.
pub record HasEnded {D : Type 0} (P : Plant D) (s : Scene) (g : GroupView) (began : List Began) (time : ℕ) (budb : BudbView) (old new : D) (jobs : List PoolJob) : Type 0 where
  pub each : began ≡ begins s (first_point s) g.held
  pub all : jobs ≡ (group_course s (kills_of (begins s (first_point s) g.held) g.kills) g.schedule (first_point s) (starts_of s (first_point s) g.held)).jobs
  pub later : time ≡ (group_answer s g).answer.time
  pub done : DoneAhead P (group_answer s g).answer.effects old new
  pub keeps : Keeps (group_answer s g).answer.log (come (group_answer s g).answer.effects s.state).log budb
  pub state : IsAhead (come (group_answer s g).answer.effects s.state) (state_of P new)
