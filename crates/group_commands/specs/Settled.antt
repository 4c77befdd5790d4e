-- WHAT IS SETTLED while several dumps take turns.
use Rattle.std.specs.Prelude.{◌≡◌, ℕ, Some, None, List, length, slice_get}
use Rattle.plant_core.specs.Crashes.{State}
use Rattle.dump_job.specs.declared.fields.Phase.{Phase}
use Rattle.dump_job.specs.declared.fields.Phase.TheVariants as phase
use Rattle.job_pool.specs.declared.jobs.PoolJob.{PoolJob}

-- a dump in this phase has put records that may wait on the tape in hand
abbrev pub MayWait : Phase → Type 0
MayWait phase.Tape = ⊥
MayWait phase.Clone = Unit {0}
MayWait phase.Head = Unit {0}
MayWait phase.Piece = Unit {0}
MayWait phase.VolumeEnd = Unit {0}
MayWait phase.PartEnd = Unit {0}
MayWait phase.DumpEnd = Unit {0}
MayWait phase.Over = ⊥

-- no dump that runs has put records on the tape of this slot that may wait
abbrev pub IsFree : List PoolJob → ℕ → Type 0
IsFree jobs c = (n : ℕ) (q : PoolJob) → slice_get jobs n ≡ Some q → q.end ≡ None → MayWait q.job.phase → q.job.reel.slot ≡ c → ⊥

-- all is settled but what such dumps have put on the tapes in hand
pub record IsRest (jobs : List PoolJob) (t : State) : Type 0 where
  pub log : t.log_settled ≡ length t.log
  pub tapes : (c : ℕ) → IsFree jobs c → t.settled c ≡ length (t.tape c)
