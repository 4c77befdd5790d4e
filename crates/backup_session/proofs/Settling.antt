-- All is settled between two commands of a script; where it isn't, more may be settled behind a turn than its effects say.
use Rattle.std.proofs.Common.{inl, inr, ℕ, List, [], ◌∷◌, length, refl, sym, ◌∙◌, ap, arith}
use Rattle.std.specs.Prelude.{◌==◌}
use Rattle.std.proofs.lemmas.Bool.{cases_Bool}
use Rattle.plant_core.specs.declared.plant.Plant.{Ghosts as Plant}
use Rattle.plant_core.specs.Crashes.{State, Alike, IsSettled}
use Rattle.plant_core.specs.Effects.{Effect, commits, replaces, tells, come}
use Rattle.plant_core.specs.Records.{Record}
use Rattle.plant_effects.specs.Runs.{state_of, Done}
use Rattle.plant_effects.proofs.States.{alike_come}
use Rattle.cell_core.specs.declared.cell.Cell.{Ghosts as Cell}
use Rattle.tape_frames.specs.declared.label.LabelFields.{LabelFields}
use Rattle.dump_courses.specs.Ahead.{IsAhead, DoneAhead}
use Rattle.dump_courses.proofs.Ahead.{ahead_within, ahead_itself, ahead_both, ahead_alike, ahead_settled, ahead_come, ahead_done}
use Rattle.backup_session.specs.Views.{SessionView, ReplyView}
use Rattle.backup_session.specs.Worlds.{World, Turn, before_reply}
use Rattle.backup_session.specs.Tapes.{putting_label}
use Rattle.backup_session.specs.Fitting.{Stands, TurnDone, SomeTurnDone, Fits, Turned, TurnedSomehow}

pub settled_alike : (s t : State) → Alike s t → IsSettled s → IsSettled t
settled_alike s t alike is = record {
  log = alike.log_settled ∙ is.log ∙ ap (λ (l : List ℕ). length l) (sym alike.log);
  tapes = λ k. alike.settled k ∙ is.tapes k ∙ ap (λ (l : List Record). length l) (sym (alike.tape k));
}

pub settled_commit : (bytes : List ℕ) (s : State) → IsSettled s → IsSettled (come (commits bytes ∷ []) s)
settled_commit bytes s is = record { log = refl; tapes = is.tapes }

pub settled_replace : (bytes : List ℕ) (s : State) → IsSettled s → IsSettled (come (replaces bytes ∷ []) s)
settled_replace bytes s is = record { log = refl; tapes = is.tapes }

pub settled_told : (text : List ℕ) (s : State) → IsSettled s → IsSettled (come (tells text ∷ []) s)
settled_told text s is = record { log = is.log; tapes = is.tapes }

pub settled_label : (slot : ℕ) (a : LabelFields) (s : State) → IsSettled s → IsSettled (come (putting_label slot a) s)
settled_label slot a s is = record {
  log = is.log;
  tapes = λ j. elim (cases_Bool (j == slot)) [
    | inl hit ↦ rw hit refl
    | inr miss ↦ rw miss (is.tapes j)
  ];
}

-- ---- plants of which more may be settled

module _ {D : Type 0} (P : Plant D) where
  -- what was done to a plant on which a state stands, with the rest settled as it was
  pub done_ahead : (effects : List Effect) (old new : D) (s : State) → IsAhead s (state_of P old) → Done P effects old new → DoneAhead P effects old new
  done_ahead effects old new s ahead done = record {
    sound = done.sound;
    survives = done.survives;
    state = λ told. ahead_alike (come effects (state_of P old)) (come effects (state_of P old)) (state_of P new)
        (ahead_come effects (state_of P old) (state_of P old) (ahead_itself s (state_of P old) ahead)) (done.state told);
  }

  -- the state behind the effects stands on the plant behind them
  pub ahead_behind : (effects : List Effect) (old new : D) (s : State) → P.tells → IsAhead s (state_of P old) → DoneAhead P effects old new → IsAhead (come effects s) (state_of P new)
  ahead_behind effects old new s told ahead done = ahead_both (come effects s) (come effects (state_of P old)) (state_of P new) (ahead_come effects s (state_of P old) ahead) (done.state told)

-- ---- where all is settled

module _ {D E : Type 0} (P : Plant D) (C : Cell E) (w : World) (plant : D) (site : E) (session : SessionView) where
  pub fits_stands : Fits P C w plant site session → Stands P C w plant site session
  fits_stands fits = record {
    keeps = fits.keeps;
    time = fits.time;
    config = fits.config;
    state = ahead_alike w.state w.state (state_of P plant)
        (ahead_within w.state (record { log = omega (arith, fits.settled.log); tapes = λ k. omega (arith, fits.settled.tapes k) })) fits.state;
    slots = fits.slots;
    present = fits.present;
    groups = fits.groups;
    cell = fits.cell;
  }

  pub stands_fit : IsSettled w.state → Stands P C w plant site session → Fits P C w plant site session
  stands_fit settled stands = record {
    keeps = stands.keeps;
    time = stands.time;
    config = stands.config;
    state = ahead_settled w.state (state_of P plant) settled stands.state;
    settled = settled;
    slots = stands.slots;
    present = stands.present;
    groups = stands.groups;
    cell = stands.cell;
  }

module _ {D E : Type 0} (P : Plant D) (C : Cell E) (w : World) (old new : D) (before after : E) (one two : SessionView) (reply : ReplyView) (fits : Fits P C w old before one) where
  pub turn_fits : (t : Turn) → TurnDone P C w t old new after two reply → Turned P C w t old new after two reply
  turn_fits t turned = record {
    done = ahead_done P t.effects old new (λ told. settled_alike (come t.effects w.state) (come t.effects (state_of P old)) (alike_come t.effects w.state (state_of P old) fits.state) (turned.settles fits.settled)) turned.done;
    text = turned.text;
    fits = stands_fit P C (before_reply w t) new after two (turned.settles fits.settled) turned.stands;
  }

  pub some_turn_fits : SomeTurnDone P C w old new after two reply → TurnedSomehow P C w old new after two reply
  some_turn_fits some = record { turn = some.turn; turned = turn_fits some.turn some.turned; silent = some.silent }
