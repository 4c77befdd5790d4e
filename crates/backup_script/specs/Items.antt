-- What a line of a script says.
use Rattle.std.specs.Prelude.{ℕ, List, Bool, ◌||◌, ◌==◌, slice_index, if◌then◌else◌, Result, Ok, Err}
use Rattle.std.specs.List.{list_all}
use Rattle.bk_text.specs.Blanks.{is_blank}
use Rattle.backup_words.specs.declared.command.Command.{Command}
use Rattle.backup_words.specs.declared.faults.WordFault.{WordFault}
use Rattle.backup_words.specs.Commands.{command_of}
use Rattle.backup_replies.specs.WordRefusals.{word_refusal}
use Rattle.backup_script.specs.declared.item.Item.{Item}
use Rattle.backup_script.specs.declared.item.Item.TheVariants.{Silent, Quit, Runs, Refused}
use Rattle.backup_script.specs.Lines.{is_quit}

-- a line that has no reply, however long it is: spaces and tabs alone, or nothing, or one that begins with `#`
abbrev pub is_silent : List ℕ → Bool
is_silent line = list_all is_blank line || (slice_index line 0 == 35)

-- a command, or the one line by which its words are refused
abbrev pub said : Result Command WordFault → Item
said (Ok command) = Runs command
said (Err fault) = Refused (word_refusal fault)

-- WHAT A LINE SAYS.
unfoldable pub item_of : List ℕ → Item
item_of line = if is_quit line then Quit else if is_silent line then Silent else said (command_of line)
