-- What items do to a script.
use Rattle.std.proofs.Common.{◌≡◌, inr, ℕ, ◌≤◌, Bool, true, false, not, List, [], ◌∷◌, length, Some, slice_get, refl, arith, OnOk, OnErr}
use Rattle.std.specs.Prelude.{if◌then◌else◌, Result, Ok, Err}
use Rattle.media_core.specs.Later.{later}
use Rattle.plant_core.specs.declared.plant.Plant.{Ghosts as Plant}
use Rattle.plant_core.specs.Effects.{tells}
use Rattle.plant_effects.specs.Runs.{Leaves}
use Rattle.cell_core.specs.declared.cell.Cell.{Ghosts as Cell}
use Rattle.backup_words.specs.declared.command.Command.{Command}
use Rattle.backup_words.specs.declared.faults.WordFault.{WordFault}
use Rattle.backup_words.specs.Commands.{command_of}
use Rattle.backup_session.specs.Worlds.{World, with_told}
use Rattle.backup_session.specs.Machine.{turn}
use Rattle.backup_session.specs.Views.{SessionView}
use Rattle.backup_session.specs.Fitting.{Fits}
use Rattle.backup_script.specs.declared.item.Item.TheVariants.{Silent, Quit, Runs, Refused}
use Rattle.backup_script.specs.Lines.{is_quit}
use Rattle.backup_script.specs.Items.{is_silent, said, item_of}
use Rattle.backup_script.specs.Scripts.{first_of, ending}
use Rattle.backup_script.specs.Running.{LineLeft, TurnLeft, HasUsed, goes_behind}

pub first_is : (ms : List ℕ) (m : ℕ) → slice_get ms 0 ≡ Some m → first_of ms ≡ m
first_is [] m is = cc
first_is (x ∷ ms) m is = cc

-- a look at a clock uses a moment
pub later_fewer : (ms : List ℕ) → length (later ms) ≤ length ms
later_fewer [] = omega arith
later_fewer (m ∷ []) = omega arith
later_fewer (m ∷ n ∷ ms) = omega arith

pub later_used : (ms : List ℕ) → HasUsed ms (later ms)
later_used [] = λ many. omega arith
later_used (m ∷ []) = λ many. omega arith
later_used (m ∷ n ∷ ms) = λ many. omega arith

said_goes : (r : Result Command WordFault) → goes_behind (said r) ≡ true
said_goes (Ok command) = refl
said_goes (Err fault) = refl

-- a script goes on behind each line but `quit`
goes_by : (quits silent : Bool) (r : Result Command WordFault) → goes_behind (if quits then Quit else if silent then Silent else said r) ≡ not quits
goes_by true silent r = refl
goes_by false true r = refl
goes_by false false r = said_goes r

pub item_goes : (line : List ℕ) → goes_behind (item_of line) ≡ not (is_quit line)
unfolding item_of
item_goes line = goes_by (is_quit line) (is_silent line) (command_of line)

-- a refusal was told in part
pub refusal_left : {D E : Type 0} (P : Plant D) (C : Cell E) (w : World) (ms text : List ℕ) (plant old new : D) (site : E) (session : SessionView) (left : List ℕ) → Fits P C w plant site session → Leaves P (tells text ∷ []) old new → left ≡ later ms
    → LineLeft P C w ms (Refused text) old new site left
refusal_left P C w ms text plant old new site session left fits leaves clock = record {
  stage = ending [] (tells text ∷ []) (with_told w text) (later ms);
  on_line = inr (inr refl);
  cell = fits.cell;
  clock = clock;
  leaves = leaves;
}

-- a command was begun
pub runs_left : {D E : Type 0} (P : Plant D) (C : Cell E) (w : World) (ms : List ℕ) (command : Command) (old new : D) (site : E) (left : List ℕ) → TurnLeft P C w (later ms) (turn w (first_of ms) command) old new site left
    → LineLeft P C w ms (Runs command) old new site left
runs_left P C w ms command old new site left begun = record {
  stage = begun.stage;
  on_line = inr begun.on_turn;
  cell = begun.cell;
  clock = begun.clock;
  leaves = begun.leaves;
}

-- in an Err
pub in_err : {T F : Type 0} (r : Result T F) (A B : Type 0) → (A → B) → OnErr r A → OnErr r B
in_err (Ok x) A B map is = tt
in_err (Err e) A B map is = map is

-- in an Ok
pub on_ok : {T F : Type 0} (r : Result T F) (A B C D : Type 0) → (A → B → C → D) → OnOk r A → OnOk r B → OnOk r C → OnOk r D
on_ok (Ok x) A B C D map a b c = map a b c
on_ok (Err e) A B C D map a b c = tt
