-- ONE DUMP ALONE, as a pool.
use Rattle.std.specs.Prelude.{◌≡◌, ℕ, List, [], ◌∷◌, None}
use Rattle.dump_courses.specs.Courses.{Point, Course}
use Rattle.job_pool.specs.declared.jobs.PoolJob.{PoolJob}
use Rattle.job_pool.specs.Pools.{PoolPoint, PoolCourse, end_by}

-- a pool of one dump that runs, behind so many of its steps
abbrev pub alone : Point → ℕ → PoolPoint
alone p steps = record { log = p.log; state = p.state; jobs = record { job = p.job; steps = steps; end = None } ∷ [] }

-- It does what the dump's course does, and ends as that does.
pub record IsCourse (c : PoolCourse) (d : Course) : Type 0 where
  pub effects : c.effects ≡ d.effects
  pub log : c.log ≡ d.log
  pub job : PoolJob
  pub jobs : c.jobs ≡ job ∷ []
  pub end : job.end ≡ end_by d.answer
