-- WHAT A SCRIPT THAT DUMPS, OR READS A SAVED DATABASE BACK, asks of the world that it begins in.
use Rattle.std.specs.Prelude.{◌≡◌, ℕ, List, [], ◌∷◌, Bool, true, false, ◌||◌}
use Rattle.backup_session.specs.Asks.{asks_dump, asks_saved}
use Rattle.backup_session.specs.Worlds.{World}
use Rattle.backup_script.specs.declared.item.Item.{Item}
use Rattle.backup_script.specs.declared.item.Item.TheVariants.{Silent, Quit, Runs, Refused}
use Rattle.backup_script.specs.Items.{item_of}
use Rattle.script_journals.specs.Worlds.{IsWorldForm}

-- a line is a command that dumps
abbrev pub item_asks_dump : Item → Bool
item_asks_dump Silent = false
item_asks_dump Quit = false
item_asks_dump (Refused text) = false
item_asks_dump (Runs command) = asks_dump command

-- a line dumps, or one of those that are run behind it
abbrev pub dumps_from : Item → Bool → Bool
dumps_from Silent further = further
dumps_from Quit further = false
dumps_from (Refused text) further = further
dumps_from (Runs command) further = asks_dump command || further

-- One of the lines that are run dumps: of those in front of the first `quit`.
abbrev pub dumps_among : List (List ℕ) → Bool
dumps_among [] = false
dumps_among (line ∷ lines) = dumps_from (item_of line) (dumps_among lines)

-- a line reads a saved database back, or one of those that are run behind it
abbrev pub reads_back_from : Item → Bool → Bool
reads_back_from Silent further = further
reads_back_from Quit further = false
reads_back_from (Refused text) further = further
reads_back_from (Runs command) further = asks_saved command || further

-- One of the lines that are run reads a saved database back: of those in front of the first `quit`.
abbrev pub reads_back_among : List (List ℕ) → Bool
reads_back_among [] = false
reads_back_among (line ∷ lines) = reads_back_from (item_of line) (reads_back_among lines)

-- Where one of the lines that are run dumps, the world has its forms. Of lines without a dump nothing is asked.
abbrev pub IsFormedFor : World → List (List ℕ) → Type 0
IsFormedFor w lines = dumps_among lines ≡ true → IsWorldForm w
