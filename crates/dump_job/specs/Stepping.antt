-- What a step of a dump did: its event where contents are told, and what is so whatever is told.
use Rattle.std.specs.Prelude.{◌≡◌, ◌≢◌, ℕ, ◌<◌, ◌≤◌, Bool, true, false, None, Result, Ok, Err, List, ◌++◌, not, IsTrue}
use Rattle.crash_moments.specs.Moments.{Rose}
use Rattle.plant_core.specs.declared.fault.Failed.{Failed}
use Rattle.plant_core.specs.declared.plant.Plant.{Ghosts as Plant}
use Rattle.plant_effects.specs.Runs.{state_of, StaysQuiet}
use Rattle.cell_core.specs.declared.cell.Cell.{Ghosts as Cell}
use Rattle.tape_scan.specs.Looking.{HasSlots, Loads}
use Rattle.budb_changes.specs.declared.change.Change.{Change}
use Rattle.budb_changes.specs.Forms.{AreChanges}
use Rattle.budb_fold.specs.Database.{after_from}
use Rattle.budb.specs.declared.fault.CommitFault.{CommitFault}
use Rattle.budb.specs.declared.fault.CommitFault.TheVariants as commit
use Rattle.budb.specs.Views.{BudbView}
use Rattle.budb.specs.Kept.{Keeps}
use Rattle.dump_job.specs.declared.answer.StepAnswer.{StepAnswer}
use Rattle.dump_job.specs.declared.answer.StepAnswer.TheVariants.{More, Done, Refused, PlantFailed, CellFailed, Memory}
use Rattle.dump_job.specs.declared.cloning.CloneFault.{CloneFault}
use Rattle.dump_job.specs.declared.cloning.CloneFault.TheVariants as clone
use Rattle.dump_job.specs.declared.fault.JobFault.{JobFault}
use Rattle.dump_job.specs.declared.fault.JobFault.TheVariants as faults
use Rattle.dump_job.specs.declared.fields.JobFields.{JobFields}
use Rattle.dump_job.specs.declared.fields.Phase.{Phase}
use Rattle.dump_job.specs.declared.fields.Phase.TheVariants as phase
use Rattle.dump_job.specs.Reels.{counts_on, has_room}
use Rattle.dump_job.specs.Faults.{DoneBehindLoads, LeavesBehindLoads}
use Rattle.dump_job.specs.Jobs.{FitsJob}
use Rattle.dump_job.specs.Left.{left_of}
use Rattle.dump_job.specs.Events.{Around, Event}

-- ---- answers

-- the step of the dump was made
abbrev pub HasStepped : StepAnswer → Type 0
HasStepped More = Unit {0}
HasStepped (Done id) = Unit {0}
HasStepped (Refused fault) = Unit {0}
HasStepped PlantFailed = ⊥
HasStepped CellFailed = ⊥
HasStepped Memory = ⊥

-- it was the last one
abbrev pub IsLast : StepAnswer → Type 0
IsLast More = ⊥
IsLast (Done id) = Unit {0}
IsLast (Refused fault) = Unit {0}
IsLast PlantFailed = ⊥
IsLast CellFailed = ⊥
IsLast Memory = ⊥

-- no step was made, and the plant didn't fail
abbrev pub IsIdle : StepAnswer → Type 0
IsIdle More = ⊥
IsIdle (Done id) = ⊥
IsIdle (Refused fault) = ⊥
IsIdle PlantFailed = ⊥
IsIdle CellFailed = Unit {0}
IsIdle Memory = Unit {0}

-- The count of a fault, by the answer that tells it: it doesn't fall, it has risen where the answer is told, and is exactly as before at
-- every other answer.
pub record IsTold (fault : StepAnswer) (before now : ℕ) (answer : StepAnswer) : Type 0 where
  pub later : before ≤ now
  pub failed : answer ≡ fault → Rose before now
  pub stays : answer ≢ fault → now ≡ before

-- ---- the event

-- What stands around a dump on a plant that tells its contents.
pub record IsPlantAround {D : Type 0} (P : Plant D) (around : Around) (budb : BudbView) (plant : D) : Type 0 where
  pub tells : P.tells
  pub listed : around.listed ≡ budb.database.listed
  pub log_size : around.log_size ≡ (P.view plant).log_size
  pub slots : HasSlots P around.slots plant

-- the same with a cell that tells its contents
pub record IsAround {D E : Type 0} (P : Plant D) (C : Cell E) (around : Around) (budb : BudbView) (plant : D) (cell : E) : Type 0 where
  pub near : IsPlantAround P around budb plant
  pub tells : C.tells
  pub volumes : around.cell ≡ C.list cell

-- A step did this event, or a part of it where it wasn't made. Its effects come behind loads, by which other tapes may be settled.
pub record Does {D : Type 0} (P : Plant D) (event : Event) (answer : StepAnswer) (budb budb_after : BudbView) (old new : D) (job_after : JobFields) : Type 0 where
  pub answers : HasStepped answer → answer ≡ event.answer
  pub job : HasStepped answer → job_after ≡ event.job
  pub form : HasStepped answer → AreChanges event.changes
  pub database : HasStepped answer → budb_after.database ≡ after_from event.changes budb.database
  pub keeps : (log : List Change) → Keeps log (state_of P old).log budb → HasStepped answer → Keeps (log ++ event.changes) (state_of P new).log budb_after
  pub done : HasStepped answer → DoneBehindLoads P event.effects old new
  pub leaves : LeavesBehindLoads P event.effects old new

-- ---- whatever is told

-- Memory may be refused at a clone, at the end of a part, which is also the step of a head for which there is no room, and at the end of
-- the dump.
abbrev pub TakesMemory : Phase → JobFields → Type 0
TakesMemory phase.Tape j = ⊥
TakesMemory phase.Clone j = Unit {0}
TakesMemory phase.Head j = IsTrue (not (has_room 4 2 (counts_on j.port j.reel)))
TakesMemory phase.Piece j = ⊥
TakesMemory phase.VolumeEnd j = ⊥
TakesMemory phase.PartEnd j = Unit {0}
TakesMemory phase.DumpEnd j = Unit {0}
TakesMemory phase.Over j = ⊥

-- What is so of a step whatever is told. The dump fits the plant again, unless the plant failed; where it goes on less of it is left, and
-- else it is over; nothing is prepared; where no step was made the dump, the database and all tapes are as they were, but that tapes may
-- have been loaded.
pub record Steps {D : Type 0} (P : Plant D) (answer : StepAnswer) (budb budb_after : BudbView) (old new : D) (job job_after : JobFields) : Type 0 where
  pub fit : answer ≢ PlantFailed → FitsJob P job_after new
  pub places : answer ≢ PlantFailed → job_after.places ≡ job.places
  pub going : answer ≡ More → job_after.phase ≢ phase.Over
  pub less : answer ≡ More → left_of job_after < left_of job
  pub over : IsLast answer → job_after.phase ≡ phase.Over
  pub nothing : budb_after.prepared ≡ None
  pub same_job : IsIdle answer → job_after ≡ job
  pub same_budb : IsIdle answer → budb_after ≡ budb
  pub loads : IsIdle answer → Loads P old new
  pub memory : P.tells → answer ≡ Memory → TakesMemory job.phase job
  pub stays : StaysQuiet P old new
  pub cause : IsTold PlantFailed (P.view old).faults (P.view new).faults answer

-- ---- answers by results

-- That a tape hasn't the records that it should comes only where contents aren't told. No count rose then, so that it is told by the one
-- answer that needs no cause.
abbrev pub put_answer : Result Bool Failed → StepAnswer
put_answer (Ok true) = More
put_answer (Ok false) = Memory
put_answer (Err fault) = PlantFailed

-- what a clone step answers
abbrev pub clone_answer : Result (Unit {0}) CloneFault → StepAnswer
clone_answer (Ok none) = More
clone_answer (Err clone.Failed) = CellFailed
clone_answer (Err clone.Memory) = Memory

-- what the end of a part answers; a refusal that no part end has counts as want of memory
abbrev pub pass_answer : Result Bool JobFault → StepAnswer
pass_answer (Ok true) = More
pass_answer (Ok false) = Memory
pass_answer (Err (faults.NoTape name)) = Refused (faults.NoTape name)
pass_answer (Err (faults.LogFull length)) = Refused (faults.LogFull length)
pass_answer (Err faults.Failed) = PlantFailed
pass_answer (Err faults.Memory) = Memory
pass_answer (Err faults.NothingToAppend) = Memory
pass_answer (Err faults.CapacityTooSmall) = Memory
pass_answer (Err faults.IdsSpent) = Memory

-- what the end of a dump answers: that it is listed under its id, or what its commit failed by
abbrev pub done_answer : ℕ → Result Bool CommitFault → StepAnswer
done_answer id (Ok true) = Done id
done_answer id (Ok false) = Memory
done_answer id (Err (commit.LogFull length)) = Refused (faults.LogFull length)
done_answer id (Err commit.Failed) = PlantFailed
done_answer id (Err commit.Memory) = Memory
