-- The volume sets.
use Rattle.std.specs.Prelude.{ℕ, ◌+◌, List, [], ◌∷◌, ◌++◌, Option, Some, None, codes}
use Rattle.std.specs.List.{flat_map}
use Rattle.volume_sets.specs.declared.sets.SetEntry.{SetEntry}
use Rattle.volume_sets.specs.declared.sets.VolumeSet.{VolumeSet}
use Rattle.backup_replies.specs.Texts.{then_word, then_number, line_feed, ok_line}

-- A server, and a partition behind its slash. `.*` stands for any.
abbrev pub server_word : Option (List ℕ) → List ℕ
server_word None = codes ".*"
server_word (Some server) = server

-- a partition behind its slash, or `.*` for any
abbrev pub partition_word : Option (List ℕ) → List ℕ
partition_word None = codes ".*"
partition_word (Some partition) = 47 ∷ partition

-- the line of an entry: its number, its server, its partition and its pattern
abbrev pub set_entry_line : ℕ → SetEntry → List ℕ
set_entry_line number entry = codes "entry" ++ then_number number ++ then_word (server_word entry.server) ++ then_word (partition_word entry.partition) ++ then_word entry.pattern ++ line_feed

-- entries have the numbers from 1 on
abbrev pub entries_lines : ℕ → List SetEntry → List ℕ
entries_lines number [] = []
entries_lines number (entry ∷ entries) = set_entry_line number entry ++ entries_lines (number + 1) entries

-- the lines of a volume set: its name, then its entries
abbrev pub set_lines : VolumeSet → List ℕ
set_lines set = codes "set" ++ then_word set.name ++ line_feed ++ entries_lines 1 set.entries

-- all of them, in the order of adding
abbrev pub sets_lines : List VolumeSet → List ℕ
sets_lines sets = flat_map set_lines sets ++ ok_line
