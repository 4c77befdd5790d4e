-- THE SCRIPT: what its lines make of a world, one after the other. Nothing here names a single command.
use Rattle.std.specs.Prelude.{◌≡◌, ◌⊎◌, ℕ, List, [], ◌∷◌, ◌++◌, Bool, true, false, if◌then◌else◌}
use Rattle.media_core.specs.Later.{later}
use Rattle.plant_core.specs.Effects.{Effect, tells}
use Rattle.cell_core.specs.declared.stored.Stored.{Stored}
use Rattle.backup_session.specs.Worlds.{World, Turn, with_told, after_turn}
use Rattle.backup_session.specs.Machine.{turn}
use Rattle.backup_session.specs.Fitting.{OnTheWay}
use Rattle.backup_script.specs.declared.item.Item.{Item}
use Rattle.backup_script.specs.declared.item.Item.TheVariants.{Silent, Quit, Runs, Refused}
use Rattle.backup_script.specs.Items.{item_of}

-- the next moment of the clock
abbrev pub first_of : List ℕ → ℕ
first_of [] = 0
first_of (m ∷ ms) = m

-- What comes of lines: the effects on the plant, each reply told among them; the world behind them; the moments of the clock that are left;
-- and whether the script goes on.
pub record Outcome : Type 0 where
  pub effects : List Effect
  pub world : World
  pub moments : List ℕ
  pub goes : Bool

-- nothing comes of it
abbrev pub nothing : World → List ℕ → Bool → Outcome
nothing w ms goes = record { effects = []; world = w; moments = ms; goes = goes }

-- A line that is refused for its words uses a moment, and leaves the session's time.
abbrev pub refusal_told : World → List ℕ → List ℕ → Outcome
refusal_told w ms text = record { effects = tells text ∷ []; world = with_told w text; moments = later ms; goes = true }

-- a command at the next moment: its reply is told behind all its other effects
abbrev pub command_told : World → List ℕ → Turn → Outcome
command_told w ms t = record { effects = t.effects ++ tells t.reply ∷ []; world = after_turn w t; moments = later ms; goes = true }

-- A line without a reply uses no moment.
abbrev pub one_line : World → List ℕ → Item → Outcome
one_line w ms Silent = nothing w ms true
one_line w ms Quit = nothing w ms false
one_line w ms (Refused text) = refusal_told w ms text
one_line w ms (Runs command) = command_told w ms (turn w (first_of ms) command)

-- one behind the other
abbrev pub then_outcome : Outcome → Outcome → Outcome
then_outcome s t = record t { effects = s.effects ++ t.effects }

-- WHAT COMES OF ALL LINES, up to the first that is `quit`.
unfoldable pub script : World → List ℕ → List (List ℕ) → Outcome
script w ms [] = nothing w ms true
script w ms (line ∷ lines) =
    let s = one_line w ms (item_of line) in
    if s.goes then then_outcome s (script s.world s.moments lines) else s

-- ---- the cell on the way

-- A list of the cell on the way of a script, the effects that may be done by then, and the moments that the clock has left there. Each command
-- whose reply is among these effects has made all its changes of this list. The first of these effects are whole: those of the lines before the
-- one in progress, which are done.
pub record Stage : Type 0 where
  pub cell : List Stored
  pub effects : List Effect
  pub moments : List ℕ
  pub whole : List Effect

-- the list and the moments between two lines, where the effects of those before are done
abbrev pub between : List Effect → World → List ℕ → Stage
between before w ms = record { cell = w.cell; effects = before; moments = ms; whole = before }

-- The same where a line has made all its changes, and its last effect is in progress: so it is while its reply is told.
abbrev pub ending : List Effect → List Effect → World → List ℕ → Stage
ending before effects w ms = record { cell = w.cell; effects = before ++ effects; moments = ms; whole = before }

-- Inside a command, behind whose moment these are left: it changes the list step by step, and its effects but for the reply may be done.
abbrev pub InsideTurn : List Effect → World → List ℕ → Turn → Stage → Type 0
InsideTurn before w ms t stage =
    OnTheWay w.cell t.cells stage.cell × (stage.effects ≡ before ++ t.effects) × (stage.moments ≡ ms) × (stage.whole ≡ before)

-- Inside a line: its moment is used. Of a line that is refused for its words nothing is told yet, and it changes no list. The other lines use
-- no moment.
abbrev pub InsideLine : List Effect → World → List ℕ → Item → Stage → Type 0
InsideLine before w ms Silent stage = ⊥
InsideLine before w ms Quit stage = ⊥
InsideLine before w ms (Refused text) stage = stage ≡ between before w (later ms)
InsideLine before w ms (Runs command) stage = InsideTurn before w (later ms) (turn w (first_of ms) command) stage

-- in front of a line, inside it, and at its end; behind it is in front of the next one, or behind all lines
abbrev pub OnLine : List Effect → World → List ℕ → Item → Stage → Type 0
OnLine before w ms item stage =
    let s = one_line w ms item in
    (stage ≡ between before w ms) ⊎ (InsideLine before w ms item stage ⊎ (stage ≡ ending before s.effects s.world s.moments))

-- a further stage, where the script goes on
abbrev pub WhereItGoes : Bool → Type 0 → Type 0
WhereItGoes true further = further
WhereItGoes false further = ⊥

-- THE STAGES OF A SCRIPT behind these effects: those of each line that is run.
unfoldable pub IsStage : List Effect → World → List ℕ → List (List ℕ) → Stage → Type 0
IsStage before w ms [] stage = stage ≡ between before w ms
IsStage before w ms (line ∷ lines) stage =
    let s = one_line w ms (item_of line) in
    OnLine before w ms (item_of line) stage ⊎ WhereItGoes s.goes (IsStage (before ++ s.effects) s.world s.moments lines stage)
