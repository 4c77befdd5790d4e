-- What is so of a plant and a cell on which nothing was called, or of which a call was refused.
use Rattle.std.proofs.Common.{◌≡◌, ◌≢◌, ℕ, refl, ap, subst, arith}
use Rattle.std.specs.Prelude.{Result, Ok, Err}
use Rattle.crash_moments.specs.Moments.{HasCauseAt}
use Rattle.plant_core.specs.declared.plant.Plant.{Ghosts as Plant}
use Rattle.plant_effects.specs.Runs.{StaysQuiet}
use Rattle.plant_effects.proofs.Joining.{Fits}
use Rattle.tape_scan.specs.Looking.{Loads, LeavesLoads, LooksAt}
use Rattle.tape_scan.proofs.Looking.{looks_none, looks_well, looks_after, looks_as}
use Rattle.restore_chain.specs.declared.fault.RestoreFault.{RestoreFault}
use Rattle.restore_chain.specs.declared.fault.RestoreFault.TheVariants as faults
use Rattle.mount_plan.specs.declared.fault.MountFault.{MountFault}
use Rattle.mount_plan.specs.declared.fault.MountFault.TheVariants as mounts
use Rattle.restore_commands.specs.declared.stops.RestoreStop.{RestoreStop}
use Rattle.restore_commands.specs.declared.stops.RestoreStop.TheVariants as stops

-- the cell wasn't called
pub cell_idle : {T : Type 0} (n : ℕ) (r : Result T RestoreStop) → r ≢ Err stops.Cell → HasCauseAt stops.Cell n n r
cell_idle n r well = record { later = omega arith; failed = λ is. absurd (well is); stays = λ _. refl }

module _ {D : Type 0} (P : Plant D) where
  pub plant_idle : {T : Type 0} (s : D) (r : Result T RestoreStop) → P.sound s → Fits P s → r ≢ Err stops.Plant → LooksAt P stops.Plant s s r
  plant_idle s r sound fits well = looks_none P stops.Plant s r sound fits well

  -- a look at the plant, by the clauses of what looked
  pub looked : {T : Type 0} (old new : D) (r : Result T RestoreFault) → (r ≢ Err faults.Failed → Loads P old new) → LeavesLoads P old new → StaysQuiet P old new → HasCauseAt faults.Failed (P.view old).faults (P.view new).faults r → LooksAt P faults.Failed old new r
  looked old new r done leaves stays cause = record { done = done; leaves = leaves; stays = stays; cause = cause }

  -- the same by the clauses of what played several volumes
  pub played_looks : {T U : Type 0} (old new : D) (r : Result T MountFault) (q : Result U RestoreStop) → (q ≡ Err stops.Plant → r ≡ Err mounts.Failed) → (r ≡ Err mounts.Failed → q ≡ Err stops.Plant)
      → (r ≢ Err mounts.Failed → Loads P old new) → LeavesLoads P old new → StaysQuiet P old new → HasCauseAt mounts.Failed (P.view old).faults (P.view new).faults r → LooksAt P stops.Plant old new q
  played_looks old new r q back on done leaves stays cause = looks_as P mounts.Failed stops.Plant old new r q back on (record { done = done; leaves = leaves; stays = stays; cause = cause })

  -- it was refused, and so is what it was for
  pub refused_look : {T U : Type 0} (old new : D) (fault : RestoreFault) (q : Result U RestoreStop) → (fault ≡ faults.Failed → q ≡ Err stops.Plant) → (q ≡ Err stops.Plant → fault ≡ faults.Failed)
      → LooksAt P faults.Failed old new (let r : Result T RestoreFault = Err fault in r) → LooksAt P stops.Plant old new q
  refused_look {T} {U} old new fault q on back looks =
      let r : Result T RestoreFault = Err fault in
      looks_as P faults.Failed stops.Plant old new r q (λ is. same (back is)) (λ is. on (fault_is is)) looks
    where
      same : fault ≡ faults.Failed → (let r : Result T RestoreFault = Err fault in r) ≡ Err faults.Failed
      same is = (λ i. Err (is i))

      fault_is : (let r : Result T RestoreFault = Err fault in r) ≡ Err faults.Failed → fault ≡ faults.Failed
      fault_is is = cc

  -- it went well, and nothing more was asked of the plant
  pub looked_well : {T U : Type 0} (old new : D) (x : T) (q : Result U RestoreStop) → q ≢ Err stops.Plant → LooksAt P faults.Failed old new (let r : Result T RestoreFault = Ok x in r) → LooksAt P stops.Plant old new q
  looked_well {T} {U} old new x q well looks = looks_well P stops.Plant old new q (looks.done (λ is. never is)) looks.stays (looks.cause.stays (λ is. never is)) well
    where
      never : (let r : Result T RestoreFault = Ok x in r) ≡ Err faults.Failed → ⊥
      never is = absurd (cc)

  -- it went well, and then more was looked at
  pub looked_on : {T U : Type 0} (old mid new : D) (x : T) (q : Result U RestoreStop) → LooksAt P faults.Failed old mid (let r : Result T RestoreFault = Ok x in r) → LooksAt P stops.Plant mid new q → LooksAt P stops.Plant old new q
  looked_on {T} {U} old mid new x q first next = looks_after P stops.Plant old mid new q (first.done (λ is. never is)) first.stays (first.cause.stays (λ is. never is)) next
    where
      never : (let r : Result T RestoreFault = Ok x in r) ≡ Err faults.Failed → ⊥
      never is = absurd (cc)

  -- it went well for one, and what it was for stopped otherwise or not at all
  pub looks_kept : {T U : Type 0} (old new : D) (x : T) (q : Result U RestoreStop) → q ≢ Err stops.Plant → LooksAt P stops.Plant old new (let r : Result T RestoreStop = Ok x in r) → LooksAt P stops.Plant old new q
  looks_kept {T} {U} old new x q well looks = looks_well P stops.Plant old new q (looks.done (λ is. never is)) looks.stays (looks.cause.stays (λ is. never is)) well
    where
      never : (let r : Result T RestoreStop = Ok x in r) ≡ Err stops.Plant → ⊥
      never is = absurd (cc)

-- the count was as before until then
pub cause_after : {T : Type 0} (old mid new : ℕ) (r : Result T RestoreStop) → mid ≡ old → HasCauseAt stops.Cell mid new r → HasCauseAt stops.Cell old new r
cause_after old mid new r same cause = subst (λ (n : ℕ). HasCauseAt stops.Cell n new r) same cause

-- all went well with the cell
pub cause_well : {T : Type 0} (old new : ℕ) (r : Result T RestoreStop) → new ≡ old → r ≢ Err stops.Cell → HasCauseAt stops.Cell old new r
cause_well old new r same well = record { later = omega (arith, same); failed = λ is. absurd (well is); stays = λ _. same }

pub cause_kept : {T U : Type 0} (old new : ℕ) (x : T) (q : Result U RestoreStop) → q ≢ Err stops.Cell → HasCauseAt stops.Cell old new (let r : Result T RestoreStop = Ok x in r) → HasCauseAt stops.Cell old new q
cause_kept {T} {U} old new x q well cause = cause_well old new q (cause.stays (λ is. never is)) well
  where
    never : (let r : Result T RestoreStop = Ok x in r) ≡ Err stops.Cell → ⊥
    never is = absurd (cc)

stop_is : {T : Type 0} (e f : RestoreStop) → (let r : Result T RestoreStop = Err e in r) ≡ Err f → e ≡ f
stop_is e f is = cc

-- a stop is handed on
pub stop_looks : {D T U : Type 0} (P : Plant D) (e : RestoreStop) (old new : D) → LooksAt P stops.Plant old new (let r : Result T RestoreStop = Err e in r) → LooksAt P stops.Plant old new (let r : Result U RestoreStop = Err e in r)
stop_looks {D} {T} {U} P e old new looks =
    let r : Result T RestoreStop = Err e in
    let q : Result U RestoreStop = Err e in
    looks_as P stops.Plant stops.Plant old new r q (λ is. ap Err (stop_is e stops.Plant is)) (λ is. ap Err (stop_is e stops.Plant is)) looks

pub cause_stop : {T U : Type 0} (old mid new : ℕ) (e : RestoreStop) → mid ≡ old → HasCauseAt stops.Cell mid new (let r : Result T RestoreStop = Err e in r) → HasCauseAt stops.Cell old new (let r : Result U RestoreStop = Err e in r)
cause_stop {T} {U} old mid new e same cause =
    let r : Result T RestoreStop = Err e in
    let so_far : HasCauseAt stops.Cell old new r = cause_after old mid new r same cause in
    record { later = so_far.later; failed = λ is. so_far.failed (ap Err (stop_is e stops.Cell is)); stays = λ well. so_far.stays (λ is. well (ap Err (stop_is e stops.Cell is))) }
