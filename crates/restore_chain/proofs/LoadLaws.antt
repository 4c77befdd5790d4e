-- A function that only reads, and one that loads a tape first.
use Rattle.std.proofs.Common.{◌≡◌, ◌≢◌, ℕ, [], List, ap}
use Rattle.std.specs.Prelude.{Result, Ok, Err, Some, slice_get}
use Rattle.crash_moments.specs.Moments.{HasCauseAt}
use Rattle.plant_core.specs.declared.plant.Plant.{Ghosts as Plant}
use Rattle.plant_effects.specs.Runs.{loaded_of, Done, Leaves, SameNumbers, StaysQuiet}
use Rattle.tape_scan.specs.Slots.{Slot}
use Rattle.tape_scan.specs.Looking.{HasSlots, Loads, LooksAt}
use Rattle.restore_chain.specs.Playing.{ReadsLoaded}
use Rattle.tape_scan.proofs.Looking.{reads_are_loads, reads_leave, slot_later, looks_as}

pub reads_look : {D T E : Type 0} (P : Plant D) (fault : E) (old new : D) (r : Result T E) → (r ≢ Err fault → Done P [] old new) → Leaves P [] old new → (r ≢ Err fault → SameNumbers P old new) → StaysQuiet P old new
    → HasCauseAt fault (P.view old).faults (P.view new).faults r → LooksAt P fault old new r
reads_look P fault old new r done leaves numbers stays cause = record {
  done = λ well. reads_are_loads P old new (done well) leaves (numbers well);
  leaves = reads_leave P old new leaves;
  stays = stays;
  cause = cause;
}

-- what is read of the tape that was loaded is what its slot says
pub loaded_reads : {D : Type 0} (P : Plant D) (slots : List Slot) (old new : D) (k : ℕ) (s : Slot) → P.tells → HasSlots P slots old → slice_get slots k ≡ Some s → Loads P old new → StaysQuiet P old new → loaded_of P new ≡ Some k → ReadsLoaded P s.items new
loaded_reads P slots old new k s told has at loads stays loaded = record {
  slot = k;
  loaded = loaded;
  read = (slot_later P old new loads stays told k s (has.each k s at)).items;
}

err_is : {T E : Type 0} (e f : E) → (let r : Result T E = Err e in r) ≡ Err f → e ≡ f
err_is e f is = cc

-- the same under another answer
pub looks_err : {D T U E : Type 0} (P : Plant D) (fault e : E) (old new : D) → LooksAt P fault old new (let r : Result T E = Err e in r) → LooksAt P fault old new (let r : Result U E = Err e in r)
looks_err {D} {T} {U} {E} P fault e old new looks =
    let r : Result T E = Err e in
    let q : Result U E = Err e in
    looks_as P fault fault old new r q (λ is. ap Err (err_is e fault is)) (λ is. ap Err (err_is e fault is)) looks

pub looks_ok : {D T U E : Type 0} (P : Plant D) (fault : E) (x : T) (y : U) (old new : D) → LooksAt P fault old new (let r : Result T E = Ok x in r) → LooksAt P fault old new (let r : Result U E = Ok y in r)
looks_ok {D} {T} {U} {E} P fault x y old new looks =
    let r : Result T E = Ok x in
    let q : Result U E = Ok y in
    looks_as P fault fault old new r q (λ is. absurd (cc)) (λ is. absurd (cc)) looks
