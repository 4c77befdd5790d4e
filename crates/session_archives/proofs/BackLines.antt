-- ON EACH LINE that reads a saved database back it fits the media; of a script without such a line nothing is asked.
use Rattle.std.proofs.Common.{◌≡◌, inl, inr, ℕ, Bool, true, false, List, [], ◌∷◌, refl}
use Rattle.std.specs.Prelude.{◌||◌}
use Rattle.std.proofs.lemmas.Bool.{cases_Bool}
use Rattle.backup_session.specs.Asks.{Asks, AsksNothing, AsksArchive, AsksFitness, AsksSaved, is_saved, asks, asks_saved}
use Rattle.backup_words.specs.declared.command.Command.{Command}
use Rattle.backup_session.specs.Worlds.{World, at_moment}
use Rattle.backup_script.specs.declared.item.Item.{Item}
use Rattle.backup_script.specs.declared.item.Item.TheVariants.{Silent, Quit, Runs, Refused}
use Rattle.backup_script.specs.Items.{item_of}
use Rattle.backup_script.specs.Scripts.{first_of, one_line}
use Rattle.backup_script.specs.Held.{IfItGoes}
use Rattle.script_journals.specs.Dumping.{reads_back_from, reads_back_among}
use Rattle.session_archives.specs.Ready.{FitsBackWhere, FitsBackFor, FitsBackOn, FitsBackThroughout}

first_not : (a b : Bool) → (a || b) ≡ false → a ≡ false
first_not true b is = is
first_not false b is = refl

second_not : (a b : Bool) → (a || b) ≡ false → b ≡ false
second_not true b is = absurd cc
second_not false b is = is

nothing_where : (w : World) (a : Asks) → is_saved a ≡ false → FitsBackWhere w a
nothing_where w AsksNothing is = tt
nothing_where w (AsksArchive command) is = tt
nothing_where w AsksFitness is = tt
nothing_where w (AsksSaved offset) is = absurd cc

-- of another command nothing is asked
pub nothing_asked : (w : World) (command : Command) → asks_saved command ≡ false → FitsBackFor w command
nothing_asked w command is = nothing_where w (asks command) is

nothing_on : (w : World) (item : Item) (further : Bool) → reads_back_from item further ≡ false → FitsBackOn w item
nothing_on w Silent further is = tt
nothing_on w Quit further is = tt
nothing_on w (Refused text) further is = tt
nothing_on w (Runs command) further is = nothing_asked w command (first_not (asks_saved command) further is)

nothing_later : (w : World) (ms : List ℕ) (item : Item) (further : Bool) (Later : Type 0) → reads_back_from item further ≡ false → (further ≡ false → Later) → IfItGoes (one_line w ms item).goes Later
nothing_later w ms Silent further Later is later = later is
nothing_later w ms Quit further Later is later = tt
nothing_later w ms (Refused text) further Later is later = later is
nothing_later w ms (Runs command) further Later is later = later (second_not (asks_saved command) further is)

none_throughout : (w : World) (ms : List ℕ) (lines : List (List ℕ)) → reads_back_among lines ≡ false → FitsBackThroughout w ms lines
unfolding FitsBackThroughout
none_throughout w ms [] is = tt
none_throughout w ms (line ∷ lines) is =
    let s = one_line w ms (item_of line) in (
      nothing_on (at_moment w (first_of ms)) (item_of line) (reads_back_among lines) is,
      nothing_later w ms (item_of line) (reads_back_among lines) (FitsBackThroughout s.world s.moments lines) is (λ none. none_throughout s.world s.moments lines none),
    )

pub fits_throughout : (w : World) (ms : List ℕ) (lines : List (List ℕ)) → (reads_back_among lines ≡ true → FitsBackThroughout w ms lines) → FitsBackThroughout w ms lines
fits_throughout w ms lines back = elim (cases_Bool (reads_back_among lines)) [
  | inl reads ↦ back reads
  | inr none ↦ none_throughout w ms lines none
]
