-- What only reads the loaded tape, call by call.
use Rattle.std.proofs.Common.{◌≡◌, ◌≢◌, [], Bool, true, Ok, Err, refl, sym, ap, ◌∙◌, subst}
use Rattle.std.specs.Prelude.{ℕ, List, Result, OnOk, IfOk, IsTrue, IsSome}
use Rattle.crash_moments.specs.Moments.{Rose, HasCauseAt}
use Rattle.plant_core.specs.declared.plant.Plant.{Ghosts as Plant}
use Rattle.plant_effects.specs.Runs.{loaded_of, Done, Leaves, SameNumbers, StaysQuiet}
use Rattle.plant_effects.proofs.Joining.{Fits, nothing_done, nothing_left, same_numbers, nothing_quiet, done_both, leaves_both, numbers_both, quiet_both}
use Rattle.budb_changes.specs.declared.records.DumpRecordFields.{DumpRecordFields}
use Rattle.tape_scan.specs.Slots.{Slot}
use Rattle.tape_scan.specs.Looking.{HasSlots, LooksAt}
use Rattle.tape_scan.proofs.Looking.{reads_are_loads, slots_later}
use Rattle.restore_chain.specs.declared.keeping.Reading.{Reading}
use Rattle.restore_chain.specs.declared.keeping.Reading.TheVariants as readings
use Rattle.restore_chain.specs.Keeping.{OnlyReads, MayKeep}
use Rattle.restore_chain.proofs.LoadLaws.{reads_look}

pub where_true : {E : Type 0} (r : Result Bool E) (X : Type 0) → OnOk r X → IfOk r (λ is. IsTrue is → X)
where_true (Ok b) X on = λ is. on
where_true (Err e) X on = tt

-- calls that read, and went well
pub record HasRead {D : Type 0} (P : Plant D) (old new : D) : Type 0 where
  pub done : Done P [] old new
  pub leaves : Leaves P [] old new
  pub numbers : SameNumbers P old new
  pub stays : StaysQuiet P old new
  pub faults : (P.view new).faults ≡ (P.view old).faults

module _ {D : Type 0} (P : Plant D) where
  pub read_none : (s : D) → P.sound s → Fits P s → HasRead P s s
  read_none s sound fits = record {
    done = nothing_done P s sound;
    leaves = nothing_left P [] s fits;
    numbers = same_numbers P s;
    stays = nothing_quiet P s;
    faults = refl;
  }

  module _ {T E : Type 0} (fault : E) where
    pub read_both : (old mid new : D) (r : Result T E) → HasRead P old mid → OnlyReads P fault mid new r → r ≢ Err fault → HasRead P old new
    read_both old mid new r first next well = record {
      done = done_both P [] [] old mid new first.done (next.done well);
      leaves = leaves_both P [] [] old mid new first.done first.leaves next.leaves;
      numbers = numbers_both P old mid new first.numbers (next.numbers well);
      stays = quiet_both P old mid new first.stays next.stays;
      faults = next.cause.stays well ∙ first.faults;
    }

    pub read_then : (old mid new : D) (r : Result T E) → HasRead P old mid → OnlyReads P fault mid new r → OnlyReads P fault old new r
    read_then old mid new r first next = record {
      done = λ well. done_both P [] [] old mid new first.done (next.done well);
      leaves = leaves_both P [] [] old mid new first.done first.leaves next.leaves;
      numbers = λ well. numbers_both P old mid new first.numbers (next.numbers well);
      stays = quiet_both P old mid new first.stays next.stays;
      cause = record {
        later = (quiet_both P old mid new first.stays next.stays).stays.faults;
        failed = λ is. subst (λ (n : ℕ). Rose n (P.view new).faults) first.faults (next.cause.failed is);
        stays = λ well. next.cause.stays well ∙ first.faults;
      };
      loads = next.loads ∙ first.numbers.tape.loads;
    }

    pub read_well : (old new : D) (r : Result T E) → HasRead P old new → r ≢ Err fault → OnlyReads P fault old new r
    read_well old new r first well = record {
      done = λ _. first.done;
      leaves = first.leaves;
      numbers = λ _. first.numbers;
      stays = first.stays;
      cause = record { later = first.stays.stays.faults; failed = λ is. absurd (well is); stays = λ _. first.faults };
      loads = first.numbers.tape.loads;
    }

    -- a call that read, with its answer
    pub reads_are : (old new : D) (r : Result T E) → (r ≢ Err fault → Done P [] old new) → Leaves P [] old new → (r ≢ Err fault → SameNumbers P old new) → StaysQuiet P old new
        → HasCauseAt fault (P.view old).faults (P.view new).faults r → (P.view new).loads ≡ (P.view old).loads → OnlyReads P fault old new r
    reads_are old new r done leaves numbers stays cause loads = record { done = done; leaves = leaves; numbers = numbers; stays = stays; cause = cause; loads = loads }

    pub has_read : (old new : D) (r : Result T E) → OnlyReads P fault old new r → r ≢ Err fault → HasRead P old new
    has_read old new r reads well = record {
      done = reads.done well;
      leaves = reads.leaves;
      numbers = reads.numbers well;
      stays = reads.stays;
      faults = reads.cause.stays well;
    }

    pub reads_look_so : (old new : D) (r : Result T E) → OnlyReads P fault old new r → LooksAt P fault old new r
    reads_look_so old new r reads = reads_look P fault old new r reads.done reads.leaves reads.numbers reads.stays reads.cause

  -- the same under another answer
  pub reads_as : {T U E F : Type 0} (fault : E) (other : F) (old new : D) (r : Result T E) (q : Result U F) → (q ≡ Err other → r ≡ Err fault) → (r ≡ Err fault → q ≡ Err other) → OnlyReads P fault old new r → OnlyReads P other old new q
  reads_as fault other old new r q back on reads = record {
    done = λ well. reads.done (λ is. well (on is));
    leaves = reads.leaves;
    numbers = λ well. reads.numbers (λ is. well (on is));
    stays = reads.stays;
    cause = record { later = reads.cause.later; failed = λ is. reads.cause.failed (back is); stays = λ well. reads.cause.stays (λ is. well (on is)) };
    loads = reads.loads;
  }

-- what is known of slots and of the loaded tape stays
pub slots_read : {D : Type 0} (P : Plant D) (slots : List Slot) (old new : D) → HasRead P old new → P.tells → HasSlots P slots old → HasSlots P slots new
slots_read P slots old new read told has = slots_later P slots old new (reads_are_loads P old new read.done read.leaves read.numbers) read.stays told has

pub may_read : {D : Type 0} (P : Plant D) (slots : List Slot) (d : DumpRecordFields) (may : Bool) (tape : ℕ) (old new : D) (r : Reading) → HasRead P old new → MayKeep P slots d may tape old r → MayKeep P slots d may tape new r
may_read P slots d may tape old new readings.Missing read is = is
may_read P slots d may tape old new readings.Held read is = is
may_read P slots d may tape old new readings.Loaded read (x, held, loaded) = (x, held, read.numbers.tape.loaded ∙ loaded)

pub still_loaded : {D : Type 0} (P : Plant D) (old new : D) → HasRead P old new → IsSome (loaded_of P old) → IsSome (loaded_of P new)
still_loaded P old new read is = subst IsSome (sym read.numbers.tape.loaded) is

err_is : {T E : Type 0} (e f : E) → (let r : Result T E = Err e in r) ≡ Err f → e ≡ f
err_is e f is = cc

pub reads_err : {D T U E : Type 0} (P : Plant D) (fault e : E) (old new : D) → OnlyReads P fault old new (let r : Result T E = Err e in r) → OnlyReads P fault old new (let r : Result U E = Err e in r)
reads_err {D} {T} {U} {E} P fault e old new reads =
    let r : Result T E = Err e in
    let q : Result U E = Err e in
    reads_as P fault fault old new r q (λ is. ap Err (err_is e fault is)) (λ is. ap Err (err_is e fault is)) reads
