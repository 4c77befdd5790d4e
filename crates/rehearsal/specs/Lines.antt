-- The five lines of a rehearsal. Numbers are plain decimals, and a line feed ends each line.
use Rattle.std.specs.Prelude.{List, ℕ, ◌++◌, codes}
use Rattle.backup_replies.specs.Texts.{then_number, line_feed, ok_line}
use Rattle.rehearsal.specs.declared.lines.Tally.{Tally}

-- the volumes; the dumps, and what stands on the tapes
abbrev pub dump_lines : Tally → List ℕ
dump_lines t = codes "rehearse" ++ then_number t.volumes ++ line_feed ++ codes "dumps" ++ then_number t.dumps ++ codes " blocks" ++ then_number t.blocks ++ codes " marks" ++ then_number t.marks ++ line_feed

-- what is found with one tape out, what is found and restored with all of them, and the end
abbrev pub restore_lines : Tally → List ℕ
restore_lines t =
    codes "added" ++ then_number t.found ++ codes " missing" ++ then_number t.missing ++ line_feed
    ++ codes "added" ++ then_number t.added ++ codes " restored" ++ then_number t.restored ++ codes " equal" ++ then_number t.equal ++ codes " bytes" ++ then_number t.bytes ++ line_feed
    ++ ok_line

-- the five lines that a rehearsal tells of what it counted
abbrev pub tally_lines : Tally → List ℕ
tally_lines t = dump_lines t ++ restore_lines t
