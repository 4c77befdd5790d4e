-- What a stop that isn't the plant's leaves, and how it is handed on.
use Rattle.std.proofs.Common.{◌≡◌, ◌≢◌, ◌+◌, List, [], ◌++◌, length, take, sym, ◌∙◌, ap, subst, arith, length-append}
use Rattle.std.specs.Prelude.{Result, Ok, Err, OnOk, OnErr}
use Rattle.std.proofs.lemmas.List.{take_all, take-append-le}
use Rattle.std.proofs.Math.Seq.{take-append-add}
use Rattle.plant_core.specs.declared.plant.Plant.{Ghosts as Plant}
use Rattle.plant_core.specs.Crashes.{State}
use Rattle.plant_core.specs.Effects.{Effect}
use Rattle.plant_effects.specs.Runs.{state_of}
use Rattle.tape_scan.specs.Looking.{Loads}
use Rattle.dump_courses.specs.Ahead.{IsAhead, DoneAhead, LeftAhead}
use Rattle.dump_courses.proofs.Ahead.{standing_ahead, loads_ahead, done_ahead_both}

-- ---- stops

-- at an error that isn't this one
pub on_stop : {T E : Type 0} (one : E) (r : Result T E) (Q : Type 0) → (r ≢ Err one → Q) → OnErr r (r ≢ Err one → Q)
on_stop one (Ok x) Q holds = tt
on_stop one (Err e) Q holds = holds

pub stop_is : {T E : Type 0} (e f : E) → (let r : Result T E = Err e in r) ≡ Err f → e ≡ f
stop_is e f is = cc

-- what is so unless one error was told is so of an error that is handed on
pub handed : {T U E : Type 0} (one e : E) (r : Result U E) (Q : Type 0) → r ≡ Err e → ((let q : Result T E = Err e in q) ≢ Err one → Q) → r ≢ Err one → Q
handed {E = E} one e r Q is next other = next (λ same. other (is ∙ ap (λ (x : E). Err x) (stop_is e one same)))

-- the same under another error
pub handed_as : {T U E F : Type 0} (one e : E) (other f : F) (Q : Type 0) → (e ≡ one → f ≡ other) → ((let q : Result T E = Err e in q) ≢ Err one → Q) → (let r : Result U F = Err f in r) ≢ Err other → Q
handed_as {F = F} one e other f Q to next well = next (λ same. well (ap (λ (x : F). Err x) (to (stop_is e one same))))

-- an error that is that one is no other
pub only_that : {T U E : Type 0} (one e : E) (r : Result U E) (Q : Type 0) → r ≡ Err e → (let q : Result T E = Err e in q) ≡ Err one → r ≢ Err one → Q
only_that {E = E} one e r Q is that other = absurd (other (is ∙ ap (λ (x : E). Err x) (stop_is e one that)))

-- at each other answer
pub either : {T E : Type 0} (one : E) (r : Result T E) (Q : Type 0) → OnOk r Q → OnErr r (r ≢ Err one → Q) → r ≢ Err one → Q
either one (Ok x) Q well ill other = well
either one (Err e) Q well ill other = ill other

-- more is so of it
pub stopped_map : {T E : Type 0} (one : E) (r : Result T E) (Q R : Type 0) → (Q → R) → OnErr r (r ≢ Err one → Q) → OnErr r (r ≢ Err one → R)
stopped_map one (Ok x) Q R on is = tt
stopped_map one (Err e) Q R on is = λ other. on (is other)

-- ---- plants

module _ {D : Type 0} (P : Plant D) where
  -- none of the effects was done
  pub left_none : (es : List Effect) (old new : D) → DoneAhead P [] old new → LeftAhead P es old new
  left_none es old new done = record { count = 0; few = omega arith; done = done }

  pub left_standing : (es : List Effect) (s : D) (t : State) → P.sound s → (P.tells → IsAhead t (state_of P s)) → LeftAhead P es s s
  left_standing es s t sound ahead = left_none es s s (standing_ahead P s t sound ahead)

  pub left_same : (es : List Effect) (old new : D) (t : State) → new ≡ old → P.sound old → (P.tells → IsAhead t (state_of P old)) → LeftAhead P es old new
  left_same es old new t same sound ahead = subst (λ (s : D). LeftAhead P es old s) (sym same) (left_standing es old t sound ahead)

  pub left_loads : (es : List Effect) (old new : D) (t : State) → (P.tells → IsAhead t (state_of P old)) → Loads P old new → LeftAhead P es old new
  left_loads es old new t ahead loads = left_none es old new (loads_ahead P old new t ahead loads)

  -- all of them were done
  pub left_whole : (es : List Effect) (old new : D) → DoneAhead P es old new → LeftAhead P es old new
  left_whole es old new done = record {
    count = length es;
    few = omega arith;
    done = subst (λ (l : List Effect). DoneAhead P l old new) (sym (take_all (length es) es (omega arith))) done;
  }

  -- more were to come
  pub left_more : (es fs : List Effect) (old new : D) → LeftAhead P es old new → LeftAhead P (es ++ fs) old new
  left_more es fs old new left = record {
    count = left.count;
    few = omega (arith, left.few, length-append es fs);
    done = subst (λ (l : List Effect). DoneAhead P l old new) (sym (take-append-le left.count es fs left.few)) left.done;
  }

  -- the first of them were done, and then the first of the others
  pub left_behind : (es fs : List Effect) (old mid new : D) → DoneAhead P es old mid → LeftAhead P fs mid new → LeftAhead P (es ++ fs) old new
  left_behind es fs old mid new first left = record {
    count = length es + left.count;
    few = omega (arith, left.few, length-append es fs);
    done = subst (λ (l : List Effect). DoneAhead P l old new) (sym (take-append-add es fs left.count)) (done_ahead_both P es (take left.count fs) old mid new first left.done);
  }
