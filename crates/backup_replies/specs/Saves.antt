-- The lines of a database that is saved or verified.
use Rattle.std.specs.Prelude.{ℕ, List, ◌++◌, codes}
use Rattle.backup_replies.specs.Texts.{then_word, then_number, line_feed, ok_line}

-- how many bytes the saved database has, and the slot of its tape; it is done then
abbrev pub saved_lines : ℕ → ℕ → List ℕ
saved_lines bytes slot = codes "saved" ++ then_number bytes ++ codes " bytes slot" ++ then_number slot ++ line_feed ++ ok_line

-- how many dumps are listed where a database was read back; it is done then
abbrev pub back_lines : ℕ → List ℕ
back_lines dumps = codes "database dumps" ++ then_number dumps ++ line_feed ++ ok_line

-- the listed dumps of an initial id, by their number
abbrev pub dumpset_line : ℕ → ℕ → List ℕ
dumpset_line initial dumps = codes "dumpset" ++ then_number initial ++ codes " dumps" ++ then_number dumps ++ line_feed

-- an initial dump that isn't listed, of which others are
abbrev pub lost_line : ℕ → List ℕ
lost_line initial = codes "lost" ++ then_number initial ++ line_feed

-- a volume of a listed dump whose chain stops at an id
abbrev pub broken_line : ℕ → List ℕ → ℕ → List ℕ
broken_line id volume at = codes "broken" ++ then_number id ++ then_word volume ++ codes " at" ++ then_number at ++ line_feed

-- how many dumps are listed, and how many lines tell of lost dumps and broken chains
abbrev pub verified_line : ℕ → ℕ → List ℕ
verified_line dumps broken = codes "verified" ++ then_number dumps ++ codes " broken" ++ then_number broken ++ line_feed
