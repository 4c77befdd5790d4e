-- What running a script leaves of a plant, a cell, a clock and a source.
use Rattle.std.specs.Prelude.{◌≡◌, ◌⊎◌, ℕ, ◌<◌, ◌≤◌, List, [], ◌∷◌, ◌++◌, length, Bool, true, false, All, Result, Ok, Err}
use Rattle.std.specs.Str.Lines.{lines, strip_carriage_return}
use Rattle.plant_core.specs.declared.plant.Plant.{Ghosts as Plant}
use Rattle.crash_moments.specs.Moments.{Stepped}
use Rattle.plant_core.specs.Effects.{Effect, tells, come, Joint}
use Rattle.plant_core.specs.Crashes.{State}
use Rattle.plant_core.specs.Stock.{Stock}
use Rattle.plant_effects.specs.Runs.{state_of, IsStartOf, Done, Leaves}
use Rattle.cell_core.specs.declared.cell.Cell.{Ghosts as Cell}
use Rattle.backup_replies.specs.Texts.{has_refusal}
use Rattle.backup_session.specs.Worlds.{World}
use Rattle.backup_session.specs.Views.{SessionView}
use Rattle.backup_session.specs.Fitting.{Fits}
use Rattle.backup_script.specs.declared.serving.ServeStop.{ServeStop}
use Rattle.backup_script.specs.declared.serving.ServeStop.TheVariants.{Read, Plant as PlantStop, Cell as CellStop, Output, TooLong, Memory}
use Rattle.backup_script.specs.Lines.{is_feed, ended, is_quit, has_quit, most_script, TookPiece}
use Rattle.backup_session.specs.Worlds.{Turn, after_turn}
use Rattle.backup_script.specs.declared.item.Item.{Item}
use Rattle.backup_script.specs.declared.item.Item.TheVariants.{Silent, Quit, Runs, Refused}
use Rattle.backup_script.specs.declared.serving.Passed.{Passed}
use Rattle.backup_script.specs.Scripts.{Outcome, script, ending, Stage, InsideTurn, OnLine, IsStage}
use Rattle.backup_script.specs.Watching.{Watched, at_start, with_text}

-- These effects were done, and plant, cell, session and clock are as they are behind them.
pub record Went {D E : Type 0} (P : Plant D) (C : Cell E) (s : Outcome) (old new : D) (site : E) (session : SessionView) (left : List ℕ) : Type 0 where
  pub done : Done P s.effects old new
  pub fits : Fits P C s.world new site session
  pub moments : left ≡ s.moments

-- what the crash model leaves after so many of these effects at least
pub record JointFrom (low : ℕ) (start : State) (effects : List Effect) (old new : Stock) : Type 0 where
  pub joint : Joint start effects old new
  pub low_is : low ≤ joint.count

-- Each image of now is one of the crash model after the first of these effects, behind all that are whole.
abbrev pub LeavesPast : {D : Type 0} → Plant D → List Effect → List Effect → D → D → Type 0
LeavesPast P whole effects old new =
    P.tells → P.survives old → (image : Stock) → P.time.may_leave new image → Stepped P.time old (JointFrom (length whole) (state_of P old) effects) image

-- However it ended: the cell has a list of some stage of the script, the clock has the moments of that stage left, and each image since the
-- start is one of the crash model after the first of the effects that may be done by then. In each image of now the lines before the one in
-- progress are done, and all that they tell was told.
pub record Left {D E : Type 0} (P : Plant D) (C : Cell E) (w : World) (ms : List ℕ) (lines : List (List ℕ)) (old new : D) (site : E) (left : List ℕ) : Type 0 where
  pub stage : Stage
  pub on_the_way : IsStage [] w ms lines stage
  pub cell : C.list site ≡ stage.cell
  pub clock : left ≡ stage.moments
  pub leaves : Leaves P stage.effects old new
  pub past : LeavesPast P stage.whole stage.effects old new
  pub least : P.tells → IsStartOf (come stage.whole (state_of P old)).told (state_of P new).told

-- The last of these lines is `quit`, and no other one.
pub record EndsAtQuit (these : List (List ℕ)) : Type 0 where
  pub before : List (List ℕ)
  pub line : List ℕ
  pub is : these ≡ before ++ line ∷ []
  pub quit : is_quit line ≡ true
  pub first : has_quit before ≡ false

-- so many bytes were taken, at most one more than a script may have
pub record Took (old new : List ℕ) : Type 0 where
  pub taken : List ℕ
  pub is : old ≡ taken ++ new
  pub few : length taken ≤ 16777217

-- THE BYTES THAT ARE TAKEN: all, of which there are no more than a script may have; or those up to the line `quit` and its line feed; at
-- TooLong one more than a script may have. But for the second case no line that was ended among them is `quit`, at a fault and for want of
-- memory neither: nothing behind such a line is read. A last line `quit` that no line feed has ended stands at the end of all bytes.
pub record TookAll (old new : List ℕ) : Type 0 where
  pub none_left : new ≡ []
  pub few : length old ≤ most_script
  pub no_quit : has_quit (lines (ended old)) ≡ false

-- The bytes up to a line `quit` and its line feed were taken, and no line before it is `quit`.
pub record TookToQuit (old new : List ℕ) : Type 0 where
  pub took : Took old new
  pub whole : ended took.taken ≡ took.taken
  pub quit : EndsAtQuit (lines took.taken)

-- one byte more than a script may have was read, and no line of it is `quit`
pub record TookTooMany (old new : List ℕ) : Type 0 where
  pub took : Took old new
  pub many : length took.taken ≡ 16777217
  pub no_quit : has_quit (lines (ended took.taken)) ≡ false

-- what was read before a fault, in which no line is `quit`
pub record TookToFault (old new : List ℕ) : Type 0 where
  pub took : Took old new
  pub no_quit : has_quit (lines (ended took.taken)) ≡ false

-- the bytes that are taken, by the answer: all of a script, those up to `quit`, one too many, or those before a fault
abbrev pub Takes : List ℕ → List ℕ → Result Bool ServeStop → Type 0
Takes old new (Ok refused) = TookAll old new ⊎ TookToQuit old new
Takes old new (Err TooLong) = TookTooMany old new
Takes old new (Err Read) = TookToFault old new
Takes old new (Err PlantStop) = TookToFault old new
Takes old new (Err CellStop) = TookToFault old new
Takes old new (Err Output) = TookToFault old new
Takes old new (Err Memory) = TookToFault old new

-- These lines were begun: what is whole comes of all of them, or of all but the last.
abbrev pub AreBegun : World → List ℕ → List (List ℕ) → List Effect → Type 0
AreBegun w ms these whole =
    (whole ≡ (script w ms these).effects) ⊎ ((before : List (List ℕ)) × (line : List ℕ) × (these ≡ before ++ line ∷ []) × (whole ≡ (script w ms before).effects))

-- However it ended, by the bytes taken: all of the script is done, or all lines that were ended among these bytes, but for the last of them at
-- most. So a line is run as soon as it is complete.
pub record LeftAt {D E : Type 0} (P : Plant D) (C : Cell E) (w : World) (ms input rest : List ℕ) (old new : D) (site : E) (left : List ℕ) : Type 0 where
  pub at : Left P C w ms (lines input) old new site left
  pub took : Took input rest
  pub begun : (at.stage.whole ≡ (script w ms (lines input)).effects) ⊎ AreBegun w ms (lines (ended took.taken)) at.stage.whole

-- Cut short: the lines that were ended were run, and no other one.
pub record WentShort {D E : Type 0} (P : Plant D) (C : Cell E) (w : World) (ms input rest : List ℕ) (old new : D) (site : E) (session : SessionView) (left : List ℕ) : Type 0 where
  pub took : Took input rest
  pub went : Went P C (script w ms (lines (ended took.taken))) old new site session left

-- A moment of a clock was used, where it had more than one: the last one stays.
abbrev pub HasUsed : List ℕ → List ℕ → Type 0
HasUsed old new = 2 ≤ length old → length new < length old

-- WHAT WAS TOLD, whatever stood on the plant: this text, and it was said whether some line of it begins with `refused`.
pub record HasTold {D : Type 0} (P : Plant D) (old new : D) (refused : Bool) : Type 0 where
  pub text : List ℕ
  pub told : (state_of P new).told ≡ (state_of P old).told ++ text
  pub is : refused ≡ has_refusal text

-- ---- inside the crate

-- What stands there is some world, and a watch was told all that was told behind these bytes.
pub record IsWatched {D E : Type 0} (P : Plant D) (C : Cell E) (before : List ℕ) (plant : D) (site : E) (session : SessionView) (watch : Watched) : Type 0 where
  pub world : World
  pub fits : Fits P C world plant site session
  pub text : List ℕ
  pub told : (state_of P plant).told ≡ before ++ text
  pub is : watch ≡ with_text at_start text

-- All of a line was done, and it was said whether the script goes on.
pub record LineRan {D E : Type 0} (P : Plant D) (C : Cell E) (s : Outcome) (old new : D) (site : E) (session : SessionView) (left : List ℕ) (goes : Bool) : Type 0 where
  pub went : Went P C s old new site session left
  pub leaves : Leaves P s.effects old new
  pub goes_is : goes ≡ s.goes

-- a line was begun
pub record LineLeft {D E : Type 0} (P : Plant D) (C : Cell E) (w : World) (ms : List ℕ) (item : Item) (old new : D) (site : E) (left : List ℕ) : Type 0 where
  pub stage : Stage
  pub on_line : OnLine [] w ms item stage
  pub cell : C.list site ≡ stage.cell
  pub clock : left ≡ stage.moments
  pub leaves : Leaves P stage.effects old new

-- in a command, behind whose moment these are left, or behind it
abbrev pub OnTurn : List Effect → World → List ℕ → Turn → Stage → Type 0
OnTurn before w ms t stage = InsideTurn before w ms t stage ⊎ (stage ≡ ending before (t.effects ++ tells t.reply ∷ []) (after_turn w t) ms)

-- A command was cut short: the cell has a list of some stage of its turn, the clock has that stage's moments left, and the images are
-- those of the stage's effects.
pub record TurnLeft {D E : Type 0} (P : Plant D) (C : Cell E) (w : World) (ms : List ℕ) (t : Turn) (old new : D) (site : E) (left : List ℕ) : Type 0 where
  pub stage : Stage
  pub on_turn : OnTurn [] w ms t stage
  pub cell : C.list site ≡ stage.cell
  pub clock : left ≡ stage.moments
  pub leaves : Leaves P stage.effects old new

-- a script was left where these effects are whole
pub record LeftWith {D E : Type 0} (P : Plant D) (C : Cell E) (w : World) (ms : List ℕ) (lines : List (List ℕ)) (whole : List Effect) (old new : D) (site : E) (left : List ℕ) : Type 0 where
  pub at : Left P C w ms lines old new site left
  pub whole_is : at.stage.whole ≡ whole

-- whether the script goes on behind a line
abbrev pub goes_behind : Item → Bool
goes_behind Silent = true
goes_behind Quit = false
goes_behind (Refused text) = true
goes_behind (Runs command) = true

-- Lines were run whole.
pub record ScriptRan {D E : Type 0} (P : Plant D) (C : Cell E) (s : Outcome) (old new : D) (site : E) (session : SessionView) (left : List ℕ) : Type 0 where
  pub went : Went P C s old new site session left
  pub leaves : Leaves P s.effects old new

-- a line that was ended was run, and the script goes on behind it
pub record LinePassed {D E : Type 0} (P : Plant D) (C : Cell E) (w : World) (ms input rest : List ℕ) (old new : D) (site : E) (session : SessionView) (left : List ℕ) : Type 0 where
  pub line : List ℕ
  pub took : TookPiece input (10 ∷ rest) line
  pub not_quit : is_quit (strip_carriage_return line) ≡ false
  pub goes : (script w ms (strip_carriage_return line ∷ [])).goes ≡ true
  pub ran : ScriptRan P C (script w ms (strip_carriage_return line ∷ [])) old new site session left

-- one line at most, which isn't `quit`
abbrev pub IsOneLine : List (List ℕ) → Type 0
IsOneLine these = (these ≡ []) ⊎ ((line : List ℕ) × (these ≡ line ∷ []) × (is_quit line ≡ false))

-- what was taken of a source, by what is known of it
abbrev pub TookOn : List ℕ → List ℕ → Type 0
TookOn old new = (line : List ℕ) × TookPiece old (10 ∷ new) line × (is_quit (strip_carriage_return line) ≡ false)

-- the script is at its end, or the line that was read is `quit`
abbrev pub TookEnd : List ℕ → List ℕ → ℕ → Type 0
TookEnd old new taken =
    ((new ≡ []) × (taken ≤ 16777216) × All (λ b. is_feed b ≡ false) old) ⊎ ((line : List ℕ) × TookPiece old (10 ∷ new) line × (is_quit (strip_carriage_return line) ≡ true))

-- the bytes that reading one line takes, by the answer
abbrev pub TakesNext : List ℕ → List ℕ → ℕ → Result Passed ServeStop → Type 0
TakesNext old new taken (Ok passed) = ((passed.goes ≡ true) → TookOn old new) × ((passed.goes ≡ false) → TookEnd old new taken)
TakesNext old new taken (Err stop) =
    (piece : List ℕ) × (old ≡ piece ++ new) × ((stop ≡ TooLong) ⊎ (stop ≡ Read) → All (λ b. is_feed b ≡ false) piece) × IsOneLine (lines (ended piece))
