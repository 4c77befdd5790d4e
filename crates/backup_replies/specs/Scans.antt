-- The lines of dumps that scans find.
use Rattle.std.specs.Prelude.{ℕ, List, ◌++◌, length, codes}
use Rattle.budb_changes.specs.declared.records.DumpRecordFields.{DumpRecordFields}
use Rattle.backup_replies.specs.Texts.{then_word, then_number, line_feed}
use Rattle.backup_replies.specs.Dumps.{dump_name}

-- a whole dump: its id and its name, and on how many tapes it is
abbrev pub found_line : DumpRecordFields → List ℕ
found_line dump = codes "found" ++ then_number dump.id ++ then_word (dump_name dump.set dump.level) ++ codes " tapes" ++ then_number (length dump.tapes) ++ line_feed

-- a dump whose record was added
abbrev pub added_line : ℕ → List ℕ
added_line id = codes "added" ++ then_number id ++ line_feed
