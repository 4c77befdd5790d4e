-- WHICH IDS RUNNING DUMPS HAVE.
use Rattle.std.specs.Prelude.{◌≡◌, ◌≤◌, ℕ, List, Some, None, slice_get}
use Rattle.job_pool.specs.declared.jobs.PoolJob.{PoolJob}

-- each dump that runs has an id from this one on
abbrev pub AllFrom : ℕ → List PoolJob → Type 0
AllFrom floor jobs = (n : ℕ) (q : PoolJob) → slice_get jobs n ≡ Some q → q.end ≡ None → floor ≤ q.job.head.id
