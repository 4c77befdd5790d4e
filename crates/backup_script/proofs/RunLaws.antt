-- How a session is opened and runs a script.
use Rattle.std.proofs.Common.{◌≡◌, inl, inr, arith, ℕ, Bool, List, [], ◌++◌, Err, refl, sym, ◌∙◌, ap, subst}
use Rattle.std.specs.Str.Lines.{lines}
use Rattle.std.proofs.lemmas.List.{append_cancel_left}
use Rattle.plant_core.specs.declared.plant.Plant.{Ghosts as Plant}
use Rattle.plant_core.specs.Effects.{Effect, told_by}
use Rattle.plant_effects.specs.Runs.{state_of, Done, Leaves}
use Rattle.plant_effects.proofs.States.{told_is}
use Rattle.plant_effects.proofs.Joining.{done_both, leaves_both}
use Rattle.cell_core.specs.declared.cell.Cell.{Ghosts as Cell}
use Rattle.tape_config.specs.Configs.{Settings}
use Rattle.budb_changes.specs.declared.change.Change.{Change}
use Rattle.budb_changes.specs.Bytes.{encoded}
use Rattle.budb_changes.specs.Forms.{AreChanges}
use Rattle.budb_changes.proofs.Logs.{same_changes}
use Rattle.archive_model.specs.Archives.{NoDump}
use Rattle.backup_replies.specs.Texts.{has_refusal}
use Rattle.backup_session.specs.Worlds.{World, Contents}
use Rattle.backup_session.specs.Views.{SessionView}
use Rattle.backup_session.specs.Fitting.{Fits}
use Rattle.backup_script.specs.Lines.{ended}
use Rattle.backup_script.specs.Scripts.{Outcome, between, script}
use Rattle.backup_script.specs.Running.{Went, LeftAt, WentShort, HasTold}
use Rattle.backup_script.specs.Ended.{world_on, Ends, EndsShort}
use Rattle.backup_script.proofs.StageLaws.{stage_front}
use Rattle.backup_script.proofs.PastLaws.{past_none, past_both, least_none, least_both}

-- some contents, which no call reads
pub no_contents : Contents
no_contents id name = Err NoDump

module _ {D E : Type 0} (P : Plant D) (C : Cell E) where
  -- the session was opened, and fits the world of the log's changes
  pub opened_fits : (config : Settings) (log : List Change) (contents : Contents) (old new : D) (site site2 : E) (session : SessionView) → AreChanges log → (state_of P old).log ≡ encoded log
      → (other : List Change) → AreChanges other → (state_of P old).log ≡ encoded other → Fits P C (world_on P C config other contents old site) new site2 session → Fits P C (world_on P C config log contents old site) new site2 session
  opened_fits config log contents old new site site2 session form is other form2 is2 = subst (λ (l : List Change). Fits P C (world_on P C config l contents old site) new site2 session) (same_changes other log form2 form (sym is2 ∙ is))

  -- what was told behind an opening, and what a script tells
  pub told_behind : (old mid new : D) (refused : Bool) → P.tells → Done P [] old mid → HasTold P mid new refused → HasTold P old new refused
  told_behind old mid new refused told first has = record { text = has.text; told = has.told ∙ ap (λ (l : List ℕ). l ++ has.text) (first.state told).told; is = has.is }

  pub told_effects : (effects : List Effect) (old new : D) (refused : Bool) → P.tells → Done P effects old new → HasTold P old new refused → refused ≡ has_refusal (told_by effects)
  told_effects effects old new refused told done has =
      has.is ∙ ap has_refusal (append_cancel_left (state_of P old).told has.text (told_by effects) (sym has.told ∙ (done.state told).told ∙ told_is effects (state_of P old)))

  module _ (w : World) (ms : List ℕ) (old mid new : D) (site : E) (first : Done P [] old mid) (first_leaves : Leaves P [] old mid) where
    pub went_ends : (s : Outcome) (session : SessionView) (left : List ℕ) → Went P C s mid new site session left → Ends P C s old new site left
    went_ends s session left went = record {
      done = done_both P [] s.effects old mid new first went.done;
      state = went.fits.state;
      settled = went.fits.settled;
      form = went.fits.keeps.form;
      log = went.fits.keeps.is;
      cell = went.fits.cell;
      moments = went.moments;
    }

    pub short_ends : (input rest : List ℕ) (session : SessionView) (left : List ℕ) → WentShort P C w ms input rest mid new site session left → EndsShort P C w ms input rest old new site left
    short_ends input rest session left short = record { took = short.took; ends = went_ends (script w ms (lines (ended short.took.taken))) session left short.went }

    pub left_after : (input rest left : List ℕ) → LeftAt P C w ms input rest mid new site left → LeftAt P C w ms input rest old new site left
    left_after input rest left begun = let b = begun.at in record {
      at = record {
        stage = b.stage;
        on_the_way = b.on_the_way;
        cell = b.cell;
        clock = b.clock;
        leaves = leaves_both P [] b.stage.effects old mid new first first_leaves b.leaves;
        past = past_both P [] b.stage.effects b.stage.whole old mid new first first_leaves b.past;
        least = least_both P [] b.stage.whole old mid new first b.least;
      };
      took = begun.took;
      begun = begun.begun;
    }

  -- it wasn't opened
  pub not_opened : (w : World) (ms input : List ℕ) (old new : D) (site : E) → C.list site ≡ w.cell → Leaves P [] old new → LeftAt P C w ms input input old new site ms
  unfolding script
  not_opened w ms input old new site same leaves = record {
    at = record {
      stage = between [] w ms;
      on_the_way = stage_front [] w ms (lines input);
      cell = same;
      clock = refl;
      leaves = leaves;
      past = past_none P [] old new leaves;
      least = least_none P [] old new leaves;
    };
    took = record { taken = []; is = refl; few = omega arith };
    begun = inr (inl refl);
  }
