-- Commands that make no volume under the name of a backup volume.
use Rattle.std.specs.Prelude.{◌≡◌, ℕ, ◌++◌, List}
use Rattle.bk_text.specs.Bases.{backup_ending}
use Rattle.backup_words.specs.declared.command.Command.{Command}
use Rattle.backup_words.specs.declared.command.Command.TheVariants.{Database, Tape, Cell, Dump, Group, Restore}
use Rattle.backup_words.specs.declared.command.CellCommand.{CellCommand}
use Rattle.backup_words.specs.declared.command.CellCommand.TheVariants.{VosCreate, VosWrite, VosRmvnode, VosBackup, VosRemove, VosListvol}

-- The name doesn't end in `.backup`.
abbrev pub IsApart : List ℕ → Type 0
IsApart name = (base : List ℕ) → name ≡ base ++ backup_ending → ⊥

-- `vos create` is given such a name. No other command on the cell names a volume that it makes.
abbrev pub CellNamesApart : CellCommand → Type 0
CellNamesApart (VosCreate server partition name) = IsApart name
CellNamesApart (VosWrite volume vnode text size) = Unit {0}
CellNamesApart (VosRmvnode volume vnode) = Unit {0}
CellNamesApart (VosBackup volume) = Unit {0}
CellNamesApart (VosRemove volume) = Unit {0}
CellNamesApart VosListvol = Unit {0}

-- a command makes no volume under the name of a backup volume
abbrev pub NamesApart : Command → Type 0
NamesApart (Database command) = Unit {0}
NamesApart (Tape command) = Unit {0}
NamesApart (Cell command) = CellNamesApart command
NamesApart (Dump command) = Unit {0}
NamesApart (Group command) = Unit {0}
NamesApart (Restore command) = Unit {0}
