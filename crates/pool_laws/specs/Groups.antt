-- WHAT THE BEGINS OF A GROUP ASK of what they find.
use Rattle.std.specs.Prelude.{◌≡◌, ◌<◌, ◌≤◌, ℕ, List, [], ◌∷◌, ◌++◌, Some, None, slice_get}
use Rattle.budb_changes.specs.declared.change.Change.{Change}
use Rattle.budb_changes.specs.Forms.{AreChanges}
use Rattle.budb_fold.specs.Database.{after}
use Rattle.tape_scan.specs.Slots.{Slot}
use Rattle.tape_answers.specs.Slots.{slots_of}
use Rattle.dump_job.specs.Beginning.{begin_changes}
use Rattle.dump_forms.specs.Forms.{HasForms}
use Rattle.dump_laws.specs.Beginning.{HeadsAreBelow, HasParent, TakenBy}
use Rattle.dump_courses.specs.Scenes.{Scene}
use Rattle.dump_commands.specs.Answers.{Contents}
use Rattle.dump_archives.proofs.Clones.{HasGoodPlaces}
use Rattle.tape_config.specs.Ports.{AreApart}
use Rattle.job_pool.specs.declared.jobs.PoolJob.{PoolJob}
use Rattle.job_pool.specs.Pools.{PoolPoint, behind}
use Rattle.dump_commands.specs.Starts.{Start}
use Rattle.group_commands.specs.Begins.{id_in, job_in, start_event}
use Rattle.pool_laws.specs.Underway.{IsGrown}

-- ---- what begins ask

-- what one asks of the log and of the slots at its moment
pub record MayStartIn (s : Scene) (time top : ℕ) (grown : Contents) (jobs : List PoolJob) (b : Start) (log : List Change) (slots : List Slot) : Type 0 where
  pub few : b.order.time ≤ 4294967295
  pub unspent : (after log).greatest < 4294967295
  pub heads : HeadsAreBelow slots b.order.time (after log).greatest
  pub parent : HasParent (after log).listed b.order.parent
  pub greater : top < id_in log b
  pub taken : TakenBy b.order (after log).listed slots b.tape
  pub changes : AreChanges (begin_changes (id_in log b) b.tape.take)
  pub forms : HasForms (job_in log b)
  pub good : HasGoodPlaces s.cell b.order.volumes
  pub time_is : b.order.time ≡ time
  pub is_grown : IsGrown s time grown (job_in log b)
  pub ports : (n : ℕ) (q : PoolJob) → slice_get jobs n ≡ Some q → AreApart q.job.port b.order.port

-- a dump may begin beside those of the pool: it has what it asks of the journal and of the tapes as they are then
abbrev pub MayStart : Scene → ℕ → ℕ → Contents → PoolPoint → Start → Type 0
MayStart s time top grown p b = MayStartIn s time top grown p.jobs b p.log (slots_of s.slots s.present p.state.tape)

-- each has it, behind those before it
abbrev pub MayAllStart : Scene → ℕ → ℕ → Contents → PoolPoint → List Start → Type 0
MayAllStart s time top grown p [] = Unit {0}
MayAllStart s time top grown p (b ∷ starts) = MayStart s time top grown p b × MayAllStart s time (id_in p.log b) grown (behind p (start_event p b)) starts

-- the id of the last one, which is the greatest
abbrev pub last_id : ℕ → PoolPoint → List Start → ℕ
last_id top p [] = top
last_id top p (b ∷ starts) = last_id (id_in p.log b) (behind p (start_event p b)) starts
