-- What the program's words ask for.
use Rattle.std.specs.Prelude.{List, map, Option, Some, None, String}
use Rattle.std.specs.String.{string_bytes}
use Rattle.std.specs.declared.alloc.Global.{Global}
use Rattle.backup_words.specs.declared.modes.Mode.{Mode}
use Rattle.backup_words.specs.declared.modes.Mode.TheVariants.{Run as RunMode, Examine as ExamineMode, Rehearse as RehearseMode}
use Rattle.backup_words.specs.Modes.{mode_of, behind_dashes}
use Rattle.backup_top.specs.declared.words.Asked.{Asked}
use Rattle.backup_top.specs.declared.words.Asked.TheVariants.{Run, Examine, Rehearse, Nothing}

-- what a mode asks for; where there is none, nothing
abbrev pub asked_of : Option Mode → Asked
asked_of None = Nothing
asked_of (Some RunMode) = Run
asked_of (Some ExamineMode) = Examine
asked_of (Some (RehearseMode n)) = Rehearse n

-- what the words ask for; one first `--` is left out
abbrev pub asked : List (String Global) → Asked
asked words = asked_of (mode_of (behind_dashes (map string_bytes words)))
