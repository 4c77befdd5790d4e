-- How a reply is told behind its command, and what telling keeps.
use Rattle.std.proofs.Common.{◌≡◌, inl, inr, ℕ, Bool, true, List, [], ◌∷◌, ◌++◌, refl, ◌∙◌, ap, subst, append_assoc}
use Rattle.std.proofs.lemmas.List.{append-nil}
use Rattle.media_core.specs.Later.{later}
use Rattle.plant_core.specs.declared.plant.Plant.{Ghosts as Plant}
use Rattle.plant_core.specs.Effects.{tells, comes}
use Rattle.plant_effects.specs.Runs.{state_of, Done, Leaves, SameNumbers, Stays}
use Rattle.plant_effects.proofs.States.{alike_both, alike_comes, told_is}
use Rattle.plant_effects.proofs.Joining.{done_both, leaves_both}
use Rattle.cell_core.specs.declared.cell.Cell.{Ghosts as Cell}
use Rattle.backup_session.specs.Worlds.{World, Turn, with_told, before_reply, after_turn}
use Rattle.backup_session.specs.Views.{SessionView, ReplyView}
use Rattle.backup_session.specs.Fitting.{Fits, Turned, TurnedSomehow, OnTheWay}
use Rattle.backup_script.specs.Scripts.{command_told, refusal_told, ending}
use Rattle.backup_script.specs.Watching.{Watched, at_start, with_text}
use Rattle.backup_script.specs.Running.{LineRan, TurnLeft, IsWatched}
use Rattle.backup_script.proofs.WatchLaws.{with_both}

module _ {D E : Type 0} (P : Plant D) (C : Cell E) where
  -- telling keeps the fit
  pub told_fits : (w : World) (text : List ℕ) (old new : D) (site : E) (session : SessionView) → Fits P C w old site session → P.tells → Done P (tells text ∷ []) old new → SameNumbers P old new → Stays P old new
      → Fits P C (with_told w text) new site session
  told_fits w text old new site session fits told done numbers stays = record {
    keeps = fits.keeps;
    time = fits.time;
    config = fits.config;
    state = alike_both (comes (tells text) w.state) (comes (tells text) (state_of P old)) (state_of P new) (alike_comes (tells text) w.state (state_of P old) fits.state) (done.state told);
    settled = record { log = fits.settled.log; tapes = fits.settled.tapes };
    slots = stays.slots ∙ fits.slots;
    present = λ k. ap (λ (f : ℕ → Bool). f k) stays.present ∙ fits.present k;
    groups = fits.groups;
    cell = fits.cell;
  }

  -- a refusal of a line's words was told
  pub refusal_ran : (w : World) (ms : List ℕ) (text : List ℕ) (old new : D) (site : E) (session : SessionView) → Fits P C w old site session → P.tells → Done P (tells text ∷ []) old new → Leaves P (tells text ∷ []) old new → SameNumbers P old new → Stays P old new
      → LineRan P C (refusal_told w ms text) old new site session (later ms) true
  refusal_ran w ms text old new site session fits told done leaves numbers stays = record {
    went = record { done = done; fits = told_fits w text old new site session fits told done numbers stays; moments = refl };
    leaves = leaves;
    goes_is = refl;
  }

  -- a text was told, to a watch too
  told_watched : (before text : List ℕ) (w : World) (old mid new : D) (site there : E) (session behind : SessionView) (watch seen : Watched) (so : IsWatched P C before old site session watch) → P.tells → (state_of P mid).told ≡ (state_of P old).told
      → Fits P C w new there behind → Done P (tells text ∷ []) mid new → seen ≡ with_text watch text → IsWatched P C before new there behind seen
  told_watched before text w old mid new site there session behind watch seen so told same fits done is = record {
    world = w;
    fits = fits;
    text = so.text ++ text;
    told = (done.state told).told ∙ ap (λ (l : List ℕ). l ++ text) (same ∙ so.told) ∙ append_assoc before so.text text;
    is = is ∙ ap (λ (v : Watched). with_text v text) so.is ∙ with_both at_start so.text text;
  }

  pub refusal_watched : (before text : List ℕ) (old new : D) (site : E) (session : SessionView) (watch seen : Watched) → IsWatched P C before old site session watch → P.tells → Done P (tells text ∷ []) old new → SameNumbers P old new → Stays P old new
      → seen ≡ with_text watch text → IsWatched P C before new site session seen
  refusal_watched before text old new site session watch seen so told done numbers stays is =
      told_watched before text (with_told so.world text) old old new site site session session watch seen so told refl (told_fits so.world text old new site session so.fits told done numbers stays) done is

  pub command_watched : (before : List ℕ) (old mid new : D) (site there : E) (session behind : SessionView) (reply : ReplyView) (watch seen : Watched) (so : IsWatched P C before old site session watch) → P.tells → TurnedSomehow P C so.world old mid there behind reply
      → Done P (tells reply.text ∷ []) mid new → SameNumbers P mid new → Stays P mid new → seen ≡ with_text watch reply.text → IsWatched P C before new there behind seen
  command_watched before old mid new site there session behind reply watch seen so told some done numbers stays is =
      let t = some.turn in
      let silent = (some.turned.done.state told).told ∙ told_is t.effects (state_of P old) ∙ ap (λ (l : List ℕ). (state_of P old).told ++ l) some.silent ∙ append-nil (state_of P old).told in
      told_watched before reply.text (with_told (before_reply so.world t) reply.text) old mid new site there session behind watch seen so told silent
      (told_fits (before_reply so.world t) reply.text mid new there behind some.turned.fits told done numbers stays) done is

  module _ (w : World) (t : Turn) (old mid new : D) (site : E) (session : SessionView) (reply : ReplyView) (turned : Turned P C w t old mid site session reply) where
    -- a reply was told whole behind its command
    pub command_ran : (ms : List ℕ) → P.tells → Leaves P t.effects old mid → Done P (tells reply.text ∷ []) mid new → Leaves P (tells reply.text ∷ []) mid new → SameNumbers P mid new → Stays P mid new
        → LineRan P C (command_told w ms t) old new site session (later ms) true
    command_ran ms told first done second numbers stays = record {
      went = record {
        done = subst (λ (r : List ℕ). Done P (t.effects ++ tells r ∷ []) old new) turned.text (done_both P t.effects (tells reply.text ∷ []) old mid new turned.done done);
        fits = subst (λ (r : List ℕ). Fits P C (with_told (before_reply w t) r) new site session) turned.text (told_fits (before_reply w t) reply.text mid new site session turned.fits told done numbers stays);
        moments = refl;
      };
      leaves = reply_leaves first second;
      goes_is = refl;
    }
      where
        reply_leaves : Leaves P t.effects old mid → Leaves P (tells reply.text ∷ []) mid new → Leaves P (t.effects ++ tells t.reply ∷ []) old new
        reply_leaves first second = subst (λ (r : List ℕ). Leaves P (t.effects ++ tells r ∷ []) old new) turned.text (leaves_both P t.effects (tells reply.text ∷ []) old mid new turned.done first second)

    -- it was told in part, or whole
    pub reply_left : (ms : List ℕ) → Leaves P t.effects old mid → Leaves P (tells reply.text ∷ []) mid new → TurnLeft P C w ms t old new site ms
    reply_left ms first second = record {
      stage = ending [] (t.effects ++ tells t.reply ∷ []) (after_turn w t) ms;
      on_turn = inr refl;
      cell = turned.fits.cell;
      clock = refl;
      leaves = subst (λ (r : List ℕ). Leaves P (t.effects ++ tells r ∷ []) old new) turned.text (leaves_both P t.effects (tells reply.text ∷ []) old mid new turned.done first second);
    }

  -- a command was begun
  pub command_left : (w : World) (ms : List ℕ) (t : Turn) (old new : D) (site : E) → OnTheWay w.cell t.cells (C.list site) → Leaves P t.effects old new → TurnLeft P C w ms t old new site ms
  command_left w ms t old new site cells leaves = record {
    stage = record { cell = C.list site; effects = t.effects; moments = ms; whole = [] };
    on_turn = inl (cells, refl, refl, refl);
    cell = refl;
    clock = refl;
    leaves = leaves;
  }
