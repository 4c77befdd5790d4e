-- DUMPS THAT TAKE TURNS: what a turn does, and what comes of a list of turns.
use Rattle.std.specs.Prelude.{zero, suc, ℕ, ◌+◌, min, List, [], ◌∷◌, ◌++◌, length, Option, Some, None, slice_get}
use Rattle.plant_core.specs.Crashes.{State}
use Rattle.plant_core.specs.Effects.{Effect, cuts, come}
use Rattle.budb_changes.specs.declared.change.Change.{Change}
use Rattle.dump_job.specs.declared.answer.StepAnswer.{StepAnswer}
use Rattle.dump_job.specs.declared.answer.StepAnswer.TheVariants as answers
use Rattle.dump_job.specs.declared.fault.JobFault.TheVariants as faults
use Rattle.dump_job.specs.declared.fields.JobFields.{JobFields}
use Rattle.dump_job.specs.Settling.{last_cut}
use Rattle.dump_job.specs.Events.{Event, event}
use Rattle.dump_courses.specs.Scenes.{Scene}
use Rattle.dump_courses.specs.Courses.{Point, next_event}
use Rattle.job_pool.specs.declared.ends.JobEnd.{JobEnd}
use Rattle.job_pool.specs.declared.ends.JobEnd.TheVariants.{Done, Refused, Killed}
use Rattle.job_pool.specs.declared.jobs.PoolJob.{PoolJob}
use Rattle.job_pool.specs.declared.turn.Turn.{Turn}
use Rattle.job_pool.specs.declared.turn.Turn.TheVariants.{Step, Kill}

-- ---- a pool between two turns

-- the changes of the journal, the plant's state, and the dumps in order of their numbers
pub record PoolPoint : Type 0 where
  pub log : List Change
  pub state : State
  pub jobs : List PoolJob

-- a dump of the pool as it stands alone
abbrev pub point_of : PoolPoint → PoolJob → Point
point_of p q = record { log = p.log; state = p.state; job = q.job }

-- the dumps with another one at a number
abbrev pub with_job : ℕ → PoolJob → List PoolJob → List PoolJob
with_job n q [] = []
with_job zero q (r ∷ jobs) = q ∷ jobs
with_job (suc n) q (r ∷ jobs) = r ∷ with_job n q jobs

-- ---- a turn

-- What a turn does: its effects on the plant, but for the loads of tapes; the changes that it commits; and the dumps behind it.
pub record PoolEvent : Type 0 where
  pub effects : List Effect
  pub changes : List Change
  pub jobs : List PoolJob

-- a turn without an effect and without a change, behind which the dumps are as before
abbrev pub nothing_done : PoolPoint → PoolEvent
nothing_done p = record { effects = []; changes = []; jobs = p.jobs }

-- How a dump ended with this answer; it runs on behind `More`. No event of a dump that runs is answered by one of the last three.
abbrev pub end_by : StepAnswer → Option JobEnd
end_by answers.More = None
end_by (answers.Done id) = Some (Done id)
end_by (answers.Refused fault) = Some (Refused fault)
end_by answers.PlantFailed = Some (Refused faults.Failed)
end_by answers.CellFailed = Some (Refused faults.Failed)
end_by answers.Memory = Some (Refused faults.Memory)

-- One step more. So many are never made that the greatest number is reached; a kill names fewer by far.
abbrev pub counted : ℕ → ℕ
counted steps = min (steps + 1) 18446744073709551615

-- a dump behind its next step
abbrev pub stepped : PoolJob → Event → PoolJob
stepped q e = record { job = e.job; steps = counted q.steps; end = end_by e.answer }

-- a dump that is killed: it ends with its id, and its steps stay as they were
abbrev pub killed : PoolJob → PoolJob
killed q = record { job = q.job; steps = q.steps; end = Some (Killed q.job.head.id) }

-- a tape is cut at its own length, which settles it; nothing where there is none
abbrev pub settling_at : Option ℕ → State → List Effect
settling_at None s = []
settling_at (Some k) s = cuts k (length (s.tape k)) ∷ []

-- the next step of the dump of this number: its effects and changes, with the dump behind it in its place
abbrev pub step_event : Scene → PoolPoint → ℕ → PoolJob → PoolEvent
step_event s p n q = let e = next_event s (point_of p q) in record { effects = e.effects; changes = e.changes; jobs = with_job n (stepped q e) p.jobs }

-- The tape that was cut last is settled, and the dump has ended.
abbrev pub kill_event : PoolPoint → ℕ → PoolJob → PoolEvent
kill_event p n q = record { effects = settling_at (last_cut q.job) p.state; changes = []; jobs = with_job n (killed q) p.jobs }

-- a turn of a dump that has ended changes nothing
abbrev pub unless_ended : Option JobEnd → PoolPoint → PoolEvent → PoolEvent
unless_ended None p e = e
unless_ended (Some end) p e = nothing_done p

-- a step of the dump of this number; nothing is done where there is no such dump or it has ended
abbrev pub step_at : Scene → PoolPoint → ℕ → Option PoolJob → PoolEvent
step_at s p n None = nothing_done p
step_at s p n (Some q) = unless_ended q.end p (step_event s p n q)

-- a kill of the dump of this number; nothing is done where there is no such dump or it has ended
abbrev pub kill_at : PoolPoint → ℕ → Option PoolJob → PoolEvent
kill_at p n None = nothing_done p
kill_at p n (Some q) = unless_ended q.end p (kill_event p n q)

-- ONE TURN.
abbrev pub turn_event : Scene → PoolPoint → Turn → PoolEvent
turn_event s p (Step n) = step_at s p n (slice_get p.jobs n)
turn_event s p (Kill n) = kill_at p n (slice_get p.jobs n)

-- the point behind a turn: its changes stand behind the log, and its effects were done to the plant
abbrev pub behind : PoolPoint → PoolEvent → PoolPoint
behind p e = record { log = p.log ++ e.changes; state = come e.effects p.state; jobs = e.jobs }

-- ---- a list of turns

-- what a list of turns comes to: all effects on the plant in order, the journal's changes, and the dumps in the end
pub record PoolCourse : Type 0 where
  pub effects : List Effect
  pub log : List Change
  pub jobs : List PoolJob

-- DUMPS INTERLEAVED: what comes of these turns, one after the other.
abbrev pub interleaved : Scene → PoolPoint → List Turn → PoolCourse
interleaved s p [] = record { effects = []; log = p.log; jobs = p.jobs }
interleaved s p (t ∷ turns) =
    let e = turn_event s p t in
    let rest = interleaved s (behind p e) turns in
    record { effects = e.effects ++ rest.effects; log = rest.log; jobs = rest.jobs }
