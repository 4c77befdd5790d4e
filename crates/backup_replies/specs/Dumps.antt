-- The dumps of the database.
use Rattle.std.specs.Prelude.{ℕ, List, [], ◌∷◌, ◌++◌, length, ◌==◌, if◌then◌else◌, Option, Some, None, codes}
use Rattle.std.specs.List.{flat_map, last_or}
use Rattle.std.specs.Option.{unwrap_or}
use Rattle.bk_text.specs.LevelPaths.{elements_of}
use Rattle.tape_frames.specs.TapeNames.{numbered}
use Rattle.budb_changes.specs.declared.records.TapePart.{TapePart}
use Rattle.budb_changes.specs.declared.records.VolRecordFields.{VolRecordFields}
use Rattle.budb_changes.specs.declared.records.DumpRecordFields.{DumpRecordFields}
use Rattle.budb_fold.specs.Lookups.{record_of, volume_of}
use Rattle.backup_replies.specs.Texts.{then_word, then_number, line_feed, ok_line}
use Rattle.backup_replies.specs.Labels.{name_or_dash}

-- the last element of a level's path
abbrev pub last_element : List ℕ → List ℕ
last_element path = unwrap_or (last_or None (elements_of path)) []

-- the name of a dump: its set, a period, and the last element of its level
abbrev pub dump_name : List ℕ → List ℕ → List ℕ
dump_name set level = set ++ 46 ∷ last_element level

-- 0 is no expiration, and 4,294,967,295 is never
abbrev pub expires_words : ℕ → List ℕ
expires_words expires = if expires == 0 then then_word (codes "none") else (if expires == 4294967295 then then_word (codes "never") else then_word (codes "at") ++ then_number expires)

-- Id and name of a dump, its initial dump and its parent; then its level, when it expires, and how many volumes and tapes it has.
abbrev pub dump_begins : DumpRecordFields → List ℕ
dump_begins dump = codes "dump" ++ then_number dump.id ++ then_word (dump_name dump.set dump.level) ++ codes " initial" ++ then_number dump.initial ++ codes " parent" ++ then_number dump.parent

-- the rest of the line of a dump: its level, when it expires, and how many volumes and tapes it has
abbrev pub dump_ends : DumpRecordFields → List ℕ
dump_ends dump = codes " level" ++ then_word dump.level ++ codes " expires" ++ expires_words dump.expires ++ codes " volumes" ++ then_number (length dump.volumes) ++ codes " tapes" ++ then_number (length dump.tapes) ++ line_feed

-- the line of a dump
abbrev pub dump_line : DumpRecordFields → List ℕ
dump_line dump = dump_begins dump ++ dump_ends dump

-- ---- one dump whole

-- the cell, where it is known
abbrev pub cell_line : List ℕ → List ℕ
cell_line [] = []
cell_line (b ∷ cell) = codes "cell" ++ then_word (b ∷ cell) ++ line_feed

-- the line of a tape of a dump: its name, how often it was used, and its permanent name or `-`
abbrev pub tape_line : List ℕ → TapePart → List ℕ
tape_line base tape = codes "tape" ++ then_word (numbered base tape.tape) ++ codes " uses" ++ then_number tape.uses ++ codes " permanent" ++ then_word (name_or_dash tape.permanent) ++ line_feed

-- The line of a volume of a dump: its name, its id, its clone time, and the time from which on its changes were dumped.
abbrev pub dumped_line : VolRecordFields → List ℕ
dumped_line volume = codes "volume" ++ then_word volume.name ++ codes " id" ++ then_number volume.id ++ codes " clone" ++ then_number volume.clone ++ codes " from" ++ then_number volume.from ++ line_feed

-- a dump, its cell, its tapes and its volumes
abbrev pub whole_dump_lines : DumpRecordFields → List ℕ
whole_dump_lines dump = dump_line dump ++ cell_line dump.cell ++ flat_map (tape_line dump.base) dump.tapes ++ flat_map dumped_line dump.volumes ++ ok_line

-- ---- lists of dumps, by their ids

-- the dump of an id, where it is listed
abbrev pub listed_line : Option DumpRecordFields → List ℕ
listed_line None = []
listed_line (Some dump) = dump_line dump

-- the reply with the lines of the dumps of these ids
abbrev pub dumps_lines : List DumpRecordFields → List ℕ → List ℕ
dumps_lines listed ids = flat_map (λ id. listed_line (record_of listed id)) ids ++ ok_line

-- a volume in the dump of an id
abbrev pub on_line : ℕ → Option VolRecordFields → List ℕ
on_line id None = []
on_line id (Some volume) = codes "on" ++ then_number id ++ codes " clone" ++ then_number volume.clone ++ codes " from" ++ then_number volume.from ++ line_feed

-- the first volume of a name in a dump
abbrev pub history_line : List ℕ → ℕ → Option DumpRecordFields → List ℕ
history_line name id None = []
history_line name id (Some dump) = on_line id (volume_of dump name)

-- the reply with a line for each of these dumps that has the volume
abbrev pub history_lines : List DumpRecordFields → List ℕ → List ℕ → List ℕ
history_lines listed name ids = flat_map (λ id. history_line name id (record_of listed id)) ids ++ ok_line

-- dumps that are forgotten
abbrev pub deleted_line : ℕ → List ℕ
deleted_line id = codes "deleted" ++ then_number id ++ line_feed

-- the reply with a line for each dump that was forgotten
abbrev pub deleted_lines : List ℕ → List ℕ
deleted_lines ids = flat_map deleted_line ids ++ ok_line
