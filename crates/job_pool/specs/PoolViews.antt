-- WHAT A CALLER SEES OF A POOL: its dumps in order of their numbers, and how many it has room for.
use Rattle.std.specs.Prelude.{ℕ, List}
use Rattle.job_pool.specs.declared.jobs.PoolJob.{PoolJob}

-- the dumps of a pool in order of their numbers, from 0 on, and how many it has room for, those in it counted
pub record PoolView : Type 0 where
  pub jobs : List PoolJob
  pub room : ℕ
