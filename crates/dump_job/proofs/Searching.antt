-- What searches for a tape did, joined; and their answers, handed on.
use Rattle.std.proofs.Common.{◌≡◌, ◌≢◌, ℕ, ◌≤◌, List, [], length, refl, sym, ◌∙◌, ap, subst, arith}
use Rattle.std.specs.Prelude.{Result, Ok, Err}
use Rattle.crash_moments.specs.Moments.{Rose, HasCauseAt}
use Rattle.plant_core.specs.declared.plant.Plant.{Ghosts as Plant}
use Rattle.plant_core.specs.Records.{Record, NoBad}
use Rattle.plant_effects.specs.Runs.{Done, Leaves, SameNumbers, StaysQuiet}
use Rattle.plant_effects.proofs.Joining.{Fits, nothing_quiet, quiet_both}
use Rattle.tape_choice.specs.declared.fault.ChoiceFault.{ChoiceFault}
use Rattle.tape_choice.specs.declared.fault.ChoiceFault.TheVariants as choice
use Rattle.tape_choice.specs.declared.places.Appending.{Appending}
use Rattle.tape_choice.specs.declared.places.Appending.TheVariants.{NoSet, NotFound, Found}
use Rattle.tape_scan.specs.Looking.{Loads}
use Rattle.tape_choice.specs.Scene.{UnlessFailed as UnlessChoiceFailed}
use Rattle.tape_scan.proofs.Looking.{loads_none, leaves_loads, loads_both, leaves_after, reads_are_loads, reads_leave, loads_keep_tape}
use Rattle.dump_job.specs.declared.fault.JobFault.{JobFault}
use Rattle.dump_job.specs.declared.fault.JobFault.TheVariants.{NothingToAppend, NoTape, CapacityTooSmall, IdsSpent, LogFull, Failed, Memory}
use Rattle.dump_job.specs.Faults.{job_fault, UnlessFailed, Answers, Searches}
use Rattle.dump_job.specs.Beginning.{Stands, FoundStands}

-- ---- what holds unless the outside refused

pub unless_any : {T A : Type 0} (r : Result T JobFault) → A → UnlessFailed r A
unless_any (Ok value) a = a
unless_any (Err Failed) a = tt
unless_any (Err NothingToAppend) a = a
unless_any (Err (NoTape name)) a = a
unless_any (Err CapacityTooSmall) a = a
unless_any (Err IdsSpent) a = a
unless_any (Err (LogFull n)) a = a
unless_any (Err Memory) a = a

pub unless_map : {T A B : Type 0} (r : Result T JobFault) → (A → B) → UnlessFailed r A → UnlessFailed r B
unless_map (Ok value) f a = f a
unless_map (Err Failed) f a = tt
unless_map (Err NothingToAppend) f a = f a
unless_map (Err (NoTape name)) f a = f a
unless_map (Err CapacityTooSmall) f a = f a
unless_map (Err IdsSpent) f a = f a
unless_map (Err (LogFull n)) f a = f a
unless_map (Err Memory) f a = f a

pub unless_err : (T U A : Type 0) (e : JobFault) → UnlessFailed {T = U} (Err e) A → UnlessFailed {T = T} (Err e) A
unless_err T U A Failed a = tt
unless_err T U A NothingToAppend a = a
unless_err T U A (NoTape name) a = a
unless_err T U A CapacityTooSmall a = a
unless_err T U A IdsSpent a = a
unless_err T U A (LogFull n) a = a
unless_err T U A Memory a = a

-- ---- answers

abbrev pub refused : (T : Type 0) → JobFault → Result T JobFault
refused T e = Err e

pub fault_same : (T : Type 0) (a b : JobFault) → refused T a ≡ refused T b → a ≡ b
fault_same T a b is = cc

pub answers_same : {T : Type 0} (told r : Result T JobFault) → told ≡ r → Answers told r
answers_same told (Ok value) is = is
answers_same told (Err Failed) is = tt
answers_same told (Err NothingToAppend) is = is
answers_same told (Err (NoTape name)) is = is
answers_same told (Err CapacityTooSmall) is = is
answers_same told (Err IdsSpent) is = is
answers_same told (Err (LogFull n)) is = is
answers_same told (Err Memory) is = tt

-- one that can't be an error but by the outside or memory
pub free_err : {A T : Type 0} (value : A) (told : Result T JobFault) (e : JobFault) → Answers {T = A} (Ok value) (Err e) → Answers told (Err e)
free_err value told Failed answers = tt
free_err value told NothingToAppend answers = absurd (cc)
free_err value told (NoTape name) answers = absurd (cc)
free_err value told CapacityTooSmall answers = absurd (cc)
free_err value told IdsSpent answers = absurd (cc)
free_err value told (LogFull n) answers = absurd (cc)
free_err value told Memory answers = tt

-- an error of one search is that of the next, where its definition hands it on
pub err_on : {T U : Type 0} (told : Result T JobFault) (next : Result T JobFault → Result U JobFault) (e : JobFault) → ((f : JobFault) → next (Err f) ≡ Err f) → Answers told (Err e) → Answers {T = U} (next told) (Err e)
err_on told next Failed hands answers = tt
err_on told next NothingToAppend hands answers = ap next answers ∙ hands NothingToAppend
err_on told next (NoTape name) hands answers = ap next answers ∙ hands (NoTape name)
err_on told next CapacityTooSmall hands answers = ap next answers ∙ hands CapacityTooSmall
err_on told next IdsSpent hands answers = ap next answers ∙ hands IdsSpent
err_on told next (LogFull n) hands answers = ap next answers ∙ hands (LogFull n)
err_on told next Memory hands answers = tt

module _ {D : Type 0} (P : Plant D) where
  -- nothing was done
  pub no_search : {T : Type 0} (r : Result T JobFault) (s : D) → r ≢ Err Failed → P.sound s → Fits P s → Searches P r s s
  no_search r s never sound fits = record {
    loads = unless_any r (loads_none P s sound fits);
    leaves = leaves_loads P s s (loads_none P s sound fits);
    log_size = unless_any r refl;
    stays = nothing_quiet P s;
    cause = record { later = omega arith; failed = λ is. absurd (never is); stays = λ other. refl };
  }

  -- records were looked at
  pub quiet_search : {T : Type 0} (r : Result T JobFault) (old new : D) → r ≢ Err Failed → Done P [] old new → Leaves P [] old new → SameNumbers P old new → StaysQuiet P old new
      → (P.view new).faults ≡ (P.view old).faults → Searches P r old new
  quiet_search r old new never done leaves numbers stays same = record {
    loads = unless_any r (reads_are_loads P old new done leaves numbers);
    leaves = reads_leave P old new leaves;
    log_size = unless_any r numbers.log_size;
    stays = stays;
    cause = record { later = stays.stays.faults; failed = λ is. absurd (never is); stays = λ other. same };
  }

  -- a choice was refused
  pub choice_refused : {T U : Type 0} (r : Result T JobFault) (e : ChoiceFault) (old new : D) → r ≡ Err (job_fault e) → UnlessChoiceFailed {T = U} (Err e) (Done P [] old new) → Leaves P [] old new
      → UnlessChoiceFailed {T = U} (Err e) (SameNumbers P old new) → StaysQuiet P old new → HasCauseAt {T = U} choice.Failed (P.view old).faults (P.view new).faults (Err e) → Searches P r old new
  choice_refused r choice.Failed old new is done leaves numbers stays cause = rw is (record {
    loads = tt;
    leaves = reads_leave P old new leaves;
    log_size = tt;
    stays = stays;
    cause = record { later = stays.stays.faults; failed = λ at. cause.failed refl; stays = λ never. absurd (never refl) };
  })
  choice_refused r choice.Memory old new is done leaves numbers stays cause = rw is (quiet_search (Err Memory) old new (λ at. absurd (cc)) done leaves numbers stays (cause.stays (λ at. absurd (cc))))

  -- one search after another
  pub searched_then : {T U : Type 0} (value : U) (r : Result T JobFault) (old mid new : D) → Searches {T = U} P (Ok value) old mid → Searches P r mid new → Searches P r old new
  searched_then value r old mid new first second =
      let same : (P.view mid).faults ≡ (P.view old).faults = first.cause.stays (λ is. absurd (cc)) in
      let stays = quiet_both P old mid new first.stays second.stays in
      record {
        loads = unless_map r (λ (l : Loads P mid new). loads_both P old mid new first.loads l) second.loads;
        leaves = leaves_after P old mid new first.loads second.leaves;
        log_size = unless_map r (λ (e : (P.view new).log_size ≡ (P.view mid).log_size). e ∙ first.log_size) second.log_size;
        stays = stays;
        cause = record {
          later = stays.stays.faults;
          failed = λ is. subst (λ (n : ℕ). Rose n (P.view new).faults) same (second.cause.failed is);
          stays = λ never. second.cause.stays never ∙ same;
        };
      }

  -- what stands on tapes still does after loads
  pub stands_on : (slot count : ℕ) (old new : D) → (P.tells → Loads P old new) → Stands P slot count old → Stands P slot count new
  stands_on slot count old new loads stands = record {
    records = λ tells. subst (λ (tape : List Record). count ≤ length tape) (sym (loads_keep_tape P old new (loads tells) tells slot)) (stands.records tells);
    whole = λ tells some. subst NoBad (sym (loads_keep_tape P old new (loads tells) tells slot)) (stands.whole tells some);
  }

  pub found_stands : (found : Appending) (old new : D) → (P.tells → Loads P old new) → FoundStands P found old → FoundStands P found new
  found_stands NoSet old new loads stands = tt
  found_stands (NotFound base tape) old new loads stands = tt
  found_stands (Found p) old new loads stands = stands_on p.slot p.end old new loads stands

  -- memory was refused before anything was done
  pub no_memory : {T : Type 0} (r : Result T JobFault) (e : JobFault) (s : D) → r ≡ Err e → e ≡ Memory → P.sound s → Fits P s → Searches P r s s
  no_memory r e s is memory sound fits = no_search r s (λ at. absurd (cc)) sound fits

-- an error that was told is handed on
pub answers_handed : {T : Type 0} (told r : Result T JobFault) (e : JobFault) → r ≡ Err e → Answers told (Err e) → Answers told r
answers_handed told r e is answers = rw is answers
