-- What is so of an answer whatever the outside and memory refuse.
use Rattle.std.specs.Prelude.{◌≡◌, ℕ, List, map, ◌++◌, Result, Ok, Err}
use Rattle.crash_moments.specs.Moments.{HasCauseAt}
use Rattle.plant_core.specs.declared.plant.Plant.{Ghosts as Plant}
use Rattle.plant_core.specs.Effects.{Effect, settles}
use Rattle.plant_effects.specs.Runs.{Done, Leaves, StaysQuiet}
use Rattle.tape_choice.specs.declared.fault.ChoiceFault.{ChoiceFault}
use Rattle.tape_choice.specs.declared.fault.ChoiceFault.TheVariants as choice
use Rattle.tape_scan.specs.Looking.{Loads, LeavesLoads}
use Rattle.dump_job.specs.declared.fault.JobFault.{JobFault}
use Rattle.dump_job.specs.declared.fault.JobFault.TheVariants.{NothingToAppend, NoTape, CapacityTooSmall, IdsSpent, LogFull, Failed, Memory}

-- what a choice of a tape failed by, as a dump is failed by it
abbrev pub job_fault : ChoiceFault → JobFault
job_fault choice.Failed = Failed
job_fault choice.Memory = Memory

-- this holds unless the outside refused
abbrev pub UnlessFailed : {T : Type 0} → Result T JobFault → Type 0 → Type 0
UnlessFailed (Ok value) holds = holds
UnlessFailed (Err Failed) holds = Unit {0}
UnlessFailed (Err NothingToAppend) holds = holds
UnlessFailed (Err (NoTape name)) holds = holds
UnlessFailed (Err CapacityTooSmall) holds = holds
UnlessFailed (Err IdsSpent) holds = holds
UnlessFailed (Err (LogFull length)) holds = holds
UnlessFailed (Err Memory) holds = holds

-- The answer is this one, unless the outside or memory refused.
abbrev pub Answers : {T : Type 0} → Result T JobFault → Result T JobFault → Type 0
Answers told (Ok value) = told ≡ Ok value
Answers told (Err Failed) = Unit {0}
Answers told (Err Memory) = Unit {0}
Answers told (Err NothingToAppend) = told ≡ Err NothingToAppend
Answers told (Err (NoTape name)) = told ≡ Err (NoTape name)
Answers told (Err CapacityTooSmall) = told ≡ Err CapacityTooSmall
Answers told (Err IdsSpent) = told ≡ Err IdsSpent
Answers told (Err (LogFull length)) = told ≡ Err (LogFull length)

-- What a search for a tape does to a plant: tapes are loaded, and nothing else is done.
pub record Searches {D T : Type 0} (P : Plant D) (result : Result T JobFault) (old new : D) : Type 0 where
  pub loads : UnlessFailed result (Loads P old new)
  pub leaves : LeavesLoads P old new
  pub log_size : UnlessFailed result ((P.view new).log_size ≡ (P.view old).log_size)
  pub stays : StaysQuiet P old new
  pub cause : HasCauseAt Failed (P.view old).faults (P.view new).faults result

-- Tapes were loaded, and then these effects were done.
pub record DoneBehindLoads {D : Type 0} (P : Plant D) (effects : List Effect) (old new : D) : Type 0 where
  pub away : List ℕ
  pub done : Done P (map settles away ++ effects) old new

-- whatever was done of some loads and then of these effects
pub record LeavesBehindLoads {D : Type 0} (P : Plant D) (effects : List Effect) (old new : D) : Type 0 where
  pub away : List ℕ
  pub leaves : Leaves P (map settles away ++ effects) old new
