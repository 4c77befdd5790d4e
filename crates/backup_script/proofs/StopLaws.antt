-- A stop of a script's lines as the stop of its run.
use Rattle.std.proofs.Common.{◌≡◌, ◌≢◌, ℕ, Bool, List, [], refl, ap, subst, arith, Result, Err}
use Rattle.crash_moments.specs.Moments.{HasCauseAt}
use Rattle.backup_script.specs.declared.running.RunStop.{RunStop}
use Rattle.backup_script.specs.declared.running.RunStop.TheVariants as runs
use Rattle.backup_script.specs.declared.serving.ServeStop.{ServeStop}
use Rattle.backup_script.specs.declared.serving.ServeStop.TheVariants as serves
use Rattle.backup_script.specs.Running.{TookToFault, Takes}
use Rattle.backup_script.specs.Ended.{TakesBytes}

serve_same : (e f : ServeStop) → ◌≡◌ {A = Result Bool ServeStop} (Err e) (Err f) → e ≡ f
serve_same e f is = cc

run_same : (e f : RunStop) → ◌≡◌ {A = Result Bool RunStop} (Err e) (Err f) → e ≡ f
run_same e f is = cc

-- the fault has its cause, behind an opening that left the count as it was
pub cause_told : (fault e : ServeStop) (told f : RunStop) (before mid now : ℕ) → (f ≡ told → e ≡ fault) → (e ≡ fault → f ≡ told) → mid ≡ before
    → HasCauseAt {T = Bool} fault mid now (Err e) → HasCauseAt {T = Bool} told before now (Err f)
cause_told fault e told f before mid now on back same cause =
    let so_far : HasCauseAt {T = Bool} fault before now (Err e) = subst (λ (n : ℕ). HasCauseAt {T = Bool} fault n now (Err e)) same cause in
    record {
      later = so_far.later;
      failed = λ is. so_far.failed (ap Err (on (run_same f told is)));
      stays = λ well. so_far.stays (λ is. well (ap Err (back (serve_same e fault is))));
    }

took : (old new : List ℕ) (e : ServeStop) → (e ≡ serves.TooLong → ⊥) → Takes old new (Err e) → TookToFault old new
took old new serves.Read short takes = takes
took old new serves.Plant short takes = takes
took old new serves.Cell short takes = takes
took old new serves.Output short takes = takes
took old new serves.TooLong short takes = absurd (short refl)
took old new serves.Memory short takes = takes

-- and so are the bytes that were taken
pub takes_told : (old new : List ℕ) (e : ServeStop) (f : RunStop) → (f ≡ runs.TooLong → e ≡ serves.TooLong) → (e ≡ serves.TooLong → f ≡ runs.TooLong) → ((at : ℕ) → f ≢ runs.BadLog at)
    → Takes old new (Err e) → TakesBytes old new (Err f)
takes_told old new e runs.TooLong on back never takes = subst (λ (s : ServeStop). Takes old new (Err s)) (on refl) takes
takes_told old new e (runs.BadLog at) on back never takes = absurd (never at refl)
takes_told old new e runs.Read on back never takes = took old new e (λ is. absurd (let x : runs.Read ≡ runs.TooLong = back is in cc)) takes
takes_told old new e runs.Plant on back never takes = took old new e (λ is. absurd (let x : runs.Plant ≡ runs.TooLong = back is in cc)) takes
takes_told old new e runs.Cell on back never takes = took old new e (λ is. absurd (let x : runs.Cell ≡ runs.TooLong = back is in cc)) takes
takes_told old new e runs.Output on back never takes = took old new e (λ is. absurd (let x : runs.Output ≡ runs.TooLong = back is in cc)) takes
takes_told old new e runs.Memory on back never takes = took old new e (λ is. absurd (let x : runs.Memory ≡ runs.TooLong = back is in cc)) takes

-- nothing was taken
pub takes_nothing : (input : List ℕ) → TookToFault input input
takes_nothing input = record { took = record { taken = []; is = refl; few = omega arith }; no_quit = refl }

pub takes_none : (input : List ℕ) (f : RunStop) → f ≢ runs.TooLong → TakesBytes input input (Err f)
takes_none input runs.TooLong short = absurd (short refl)
takes_none input (runs.BadLog at) short = refl
takes_none input runs.Read short = takes_nothing input
takes_none input runs.Plant short = takes_nothing input
takes_none input runs.Cell short = takes_nothing input
takes_none input runs.Output short = takes_nothing input
takes_none input runs.Memory short = takes_nothing input
