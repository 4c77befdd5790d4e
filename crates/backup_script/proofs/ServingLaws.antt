-- How lines are run one after the other. Nothing here speaks of a single command.
use Rattle.std.proofs.Common.{◌≡◌, inl, ℕ, ◌<◌, Bool, true, false, List, [], ◌∷◌, length, refl, sym, ◌∙◌, ap, subst}
use Rattle.std.specs.Str.Lines.{lines, strip_carriage_return}
use Rattle.std.proofs.lemmas.List.{append-nil}
use Rattle.plant_core.specs.declared.plant.Plant.{Ghosts as Plant}
use Rattle.plant_core.specs.Effects.{Effect, come}
use Rattle.plant_effects.specs.Runs.{state_of, IsStartOf, Leaves}
use Rattle.plant_effects.proofs.Joining.{Fits as FitsPlant, nothing_done, nothing_left}
use Rattle.cell_core.specs.declared.cell.Cell.{Ghosts as Cell}
use Rattle.backup_session.specs.Worlds.{World}
use Rattle.backup_session.specs.Views.{SessionView}
use Rattle.backup_session.specs.Fitting.{Fits}
use Rattle.backup_script.specs.Lines.{is_quit, TookPiece}
use Rattle.backup_script.specs.declared.item.Item.{Item}
use Rattle.backup_script.specs.Items.{item_of}
use Rattle.backup_script.specs.Scripts.{Outcome, nothing, one_line, script, Stage, between, OnLine, IsStage}
use Rattle.backup_script.specs.Held.{HeldForLine, IsHeldThroughout}
use Rattle.backup_script.specs.Running.{Went, LeavesPast, LeftWith, LineRan, LineLeft, ScriptRan, LinePassed}
use Rattle.backup_script.proofs.LineLaws.{line_first, line_last}
use Rattle.backup_script.proofs.ScriptLaws.{script_one, script_ended}
use Rattle.backup_script.proofs.StageLaws.{stage_front, line_whole}
use Rattle.backup_script.proofs.PastLaws.{past_none, least_none}
use Rattle.backup_script.proofs.HeldLaws.{held_first}

-- the lines of a source of which one was taken
pub lines_first : (input rest line : List ℕ) → TookPiece input (10 ∷ rest) line → lines input ≡ strip_carriage_return line ∷ lines rest
lines_first input rest line took = ap (λ (l : List ℕ). lines l) took.is ∙ line_first line rest took.plain

pub lines_last : (input line : List ℕ) → TookPiece input [] line → 0 < length line → lines input ≡ line ∷ []
lines_last input line took some = ap (λ (l : List ℕ). lines l) (took.is ∙ append-nil line) ∙ line_last line took.plain some

-- what the line that is read finds
pub held_ended : (w : World) (ms input rest line read : List ℕ) → TookPiece input (10 ∷ rest) line → read ≡ strip_carriage_return line → IsHeldThroughout w ms (lines input) → HeldForLine w ms (item_of read)
held_ended w ms input rest line read took is held = subst (λ (l : List ℕ). HeldForLine w ms (item_of l)) (sym is)
    (held_first w ms (strip_carriage_return line) (lines rest) (subst (λ (ls : List (List ℕ)). IsHeldThroughout w ms ls) (lines_first input rest line took) held))

pub held_last : (w : World) (ms input line read : List ℕ) → TookPiece input [] line → 0 < length line → read ≡ line → IsHeldThroughout w ms (lines input) → HeldForLine w ms (item_of read)
held_last w ms input line read took some is held = subst (λ (l : List ℕ). HeldForLine w ms (item_of l)) (sym is)
    (held_first w ms line [] (subst (λ (ls : List (List ℕ)). IsHeldThroughout w ms ls) (lines_last input line took some) held))

-- no line is whole while the first one is in progress
first_past : {D : Type 0} (P : Plant D) (w : World) (ms : List ℕ) (item : Item) (old new : D) (stage : Stage) → OnLine [] w ms item stage → Leaves P stage.effects old new → LeavesPast P stage.whole stage.effects old new
first_past P w ms item old new stage on leaves = subst (λ (es : List Effect). LeavesPast P es stage.effects old new) (sym (line_whole [] w ms item stage on)) (past_none P stage.effects old new leaves)

first_least : {D : Type 0} (P : Plant D) (w : World) (ms : List ℕ) (item : Item) (old new : D) (stage : Stage) → OnLine [] w ms item stage → Leaves P stage.effects old new
    → P.tells → IsStartOf (come stage.whole (state_of P old)).told (state_of P new).told
first_least P w ms item old new stage on leaves told = subst (λ (es : List Effect). IsStartOf (come es (state_of P old)).told (state_of P new).told) (sym (line_whole [] w ms item stage on)) (least_none P stage.effects old new leaves told)

module _ {D E : Type 0} (P : Plant D) (C : Cell E) where
  -- a line alone
  pub ran_alone : (w : World) (ms line : List ℕ) (old new : D) (site : E) (session : SessionView) (left : List ℕ) (goes : Bool) → LineRan P C (one_line w ms (item_of line)) old new site session left goes
      → ScriptRan P C (script w ms (line ∷ [])) old new site session left
  ran_alone w ms line old new site session left goes ran =
      subst (λ (s : Outcome). ScriptRan P C s old new site session left) (sym (script_one w ms line)) (record { went = ran.went; leaves = ran.leaves })

  goes_alone : (w : World) (ms line : List ℕ) (old new : D) (site : E) (session : SessionView) (left : List ℕ) (goes : Bool) → LineRan P C (one_line w ms (item_of line)) old new site session left goes
      → (script w ms (line ∷ [])).goes ≡ goes
  goes_alone w ms line old new site session left goes ran = ap (λ (s : Outcome). s.goes) (script_one w ms line) ∙ sym ran.goes_is

  -- the first of lines was begun
  line_begun : (w : World) (ms line : List ℕ) (more : List (List ℕ)) (old new : D) (site : E) (left : List ℕ) → LineLeft P C w ms (item_of line) old new site left → LeftWith P C w ms (line ∷ more) [] old new site left
  unfolding IsStage
  line_begun w ms line more old new site left begun = record {
    at = record {
      stage = begun.stage;
      on_the_way = inl begun.on_line;
      cell = begun.cell;
      clock = begun.clock;
      leaves = begun.leaves;
      past = first_past P w ms (item_of line) old new begun.stage begun.on_line begun.leaves;
      least = first_least P w ms (item_of line) old new begun.stage begun.on_line begun.leaves;
    };
    whole_is = line_whole [] w ms (item_of line) begun.stage begun.on_line;
  }

  -- a line that was ended, and what is behind it
  module _ (w : World) (ms input rest line : List ℕ) (old new : D) (site : E) (took : TookPiece input (10 ∷ rest) line) where
    pub line_passed : (session : SessionView) (left : List ℕ) (goes : Bool) → is_quit (strip_carriage_return line) ≡ false → goes ≡ true → LineRan P C (one_line w ms (item_of (strip_carriage_return line))) old new site session left goes
        → LinePassed P C w ms input rest old new site session left
    line_passed session left goes not_quit on ran = record {
      line = line;
      took = took;
      not_quit = not_quit;
      goes = goes_alone w ms (strip_carriage_return line) old new site session left goes ran ∙ on;
      ran = ran_alone w ms (strip_carriage_return line) old new site session left goes ran;
    }

    pub line_ended : (session : SessionView) (left : List ℕ) (goes : Bool) → goes ≡ false → LineRan P C (one_line w ms (item_of (strip_carriage_return line))) old new site session left goes
        → ScriptRan P C (script w ms (lines input)) old new site session left
    line_ended session left goes off ran =
        subst (λ (s : Outcome). ScriptRan P C s old new site session left)
        (sym (ap (script w ms) (lines_first input rest line took) ∙ script_ended (strip_carriage_return line ∷ []) (lines rest) w ms (goes_alone w ms (strip_carriage_return line) old new site session left goes ran ∙ off)))
        (ran_alone w ms (strip_carriage_return line) old new site session left goes ran)

    pub line_left : (left : List ℕ) → LineLeft P C w ms (item_of (strip_carriage_return line)) old new site left → LeftWith P C w ms (lines input) [] old new site left
    line_left left begun = subst (λ (ls : List (List ℕ)). LeftWith P C w ms ls [] old new site left) (sym (lines_first input rest line took))
        (line_begun w ms (strip_carriage_return line) (lines rest) old new site left begun)

  -- the last line
  pub last_ran : (w : World) (ms input line : List ℕ) (old new : D) (site : E) (session : SessionView) (left : List ℕ) → TookPiece input [] line → 0 < length line → ScriptRan P C (script w ms (line ∷ [])) old new site session left
      → ScriptRan P C (script w ms (lines input)) old new site session left
  last_ran w ms input line old new site session left took some ran = subst (λ (ls : List (List ℕ)). ScriptRan P C (script w ms ls) old new site session left) (sym (lines_last input line took some)) ran

  pub last_left : (w : World) (ms input line : List ℕ) (old new : D) (site : E) (left : List ℕ) → TookPiece input [] line → 0 < length line → LineLeft P C w ms (item_of line) old new site left
      → LeftWith P C w ms (lines input) [] old new site left
  last_left w ms input line old new site left took some begun = subst (λ (ls : List (List ℕ)). LeftWith P C w ms ls [] old new site left) (sym (lines_last input line took some)) (line_begun w ms line [] old new site left begun)

  -- nothing was run
  pub went_nothing : (w : World) (ms : List ℕ) (s : D) (site : E) (session : SessionView) (goes : Bool) → P.sound s → Fits P C w s site session → Went P C (nothing w ms goes) s s site session ms
  went_nothing w ms s site session goes sound fits = record { done = nothing_done P s sound; fits = fits; moments = refl }

  pub no_lines_ran : (w : World) (ms : List ℕ) (s : D) (site : E) (session : SessionView) → P.sound s → FitsPlant P s → Fits P C w s site session → ScriptRan P C (script w ms []) s s site session ms
  unfolding script
  no_lines_ran w ms s site session sound fits_plant fits = record { went = went_nothing w ms s site session true sound fits; leaves = nothing_left P [] s fits_plant }

  pub nothing_ran : (w : World) (ms input : List ℕ) (s : D) (site : E) (session : SessionView) → input ≡ [] → P.sound s → FitsPlant P s → Fits P C w s site session → ScriptRan P C (script w ms (lines input)) s s site session ms
  nothing_ran w ms input s site session none sound fits_plant fits = subst (λ (l : List ℕ). ScriptRan P C (script w ms (lines l)) s s site session ms) (sym none) (no_lines_ran w ms s site session sound fits_plant fits)

  pub nothing_begun : (w : World) (ms : List ℕ) (lines : List (List ℕ)) (s : D) (site : E) (session : SessionView) → FitsPlant P s → Fits P C w s site session → LeftWith P C w ms lines [] s s site ms
  nothing_begun w ms lines s site session fits_plant fits = record {
    at = record {
      stage = between [] w ms;
      on_the_way = stage_front [] w ms lines;
      cell = fits.cell;
      clock = refl;
      leaves = nothing_left P [] s fits_plant;
      past = past_none P [] s s (nothing_left P [] s fits_plant);
      least = least_none P [] s s (nothing_left P [] s fits_plant);
    };
    whole_is = refl;
  }
