-- WHAT A SCRIPT FINDS. Each of its commands that asks the archive finds a plant that holds it: in the world at its own moment, behind all
-- lines before it. It is so of every script without such a command.
use Rattle.std.specs.Prelude.{ℕ, List, [], ◌∷◌, Bool, true, false}
use Rattle.backup_session.specs.Asks.{asks_archive}
use Rattle.backup_session.specs.Worlds.{World, at_moment}
use Rattle.backup_session.specs.Held.{HeldFor}
use Rattle.backup_script.specs.declared.item.Item.{Item}
use Rattle.backup_script.specs.declared.item.Item.TheVariants.{Silent, Quit, Runs, Refused}
use Rattle.backup_script.specs.Items.{item_of}
use Rattle.backup_script.specs.Scripts.{first_of, one_line}

-- what a line finds
abbrev pub HeldForLine : World → List ℕ → Item → Type 0
HeldForLine w ms Silent = Unit {0}
HeldForLine w ms Quit = Unit {0}
HeldForLine w ms (Refused text) = Unit {0}
HeldForLine w ms (Runs command) = HeldFor (at_moment w (first_of ms)) command

-- further lines, where the script goes on
abbrev pub IfItGoes : Bool → Type 0 → Type 0
IfItGoes true further = further
IfItGoes false further = Unit {0}

-- each line that is run finds it
unfoldable pub IsHeldThroughout : World → List ℕ → List (List ℕ) → Type 0
IsHeldThroughout w ms [] = Unit {0}
IsHeldThroughout w ms (line ∷ lines) =
    let s = one_line w ms (item_of line) in
    HeldForLine w ms (item_of line) × IfItGoes s.goes (IsHeldThroughout s.world s.moments lines)

-- a line is a command that asks the archive
abbrev pub item_asks_archive : Item → Bool
item_asks_archive Silent = false
item_asks_archive Quit = false
item_asks_archive (Refused text) = false
item_asks_archive (Runs command) = asks_archive command

-- a line of a script that asks the archive
abbrev pub line_asks_archive : List ℕ → Bool
line_asks_archive line = item_asks_archive (item_of line)
