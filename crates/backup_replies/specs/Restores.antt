-- What a dump and a restore tell.
use Rattle.std.specs.Prelude.{ℕ, List, [], ◌∷◌, ◌++◌, codes}
use Rattle.backup_replies.specs.Texts.{then_word, then_number, line_feed}
use Rattle.backup_replies.specs.Dumps.{dump_name}

-- ---- dumps

-- a dump that was made: its id, its name, its parent, and how many volumes and tapes it has
abbrev pub made_line : ℕ → List ℕ → List ℕ → ℕ → ℕ → ℕ → List ℕ
made_line id set level parent volumes tapes =
    codes "dump" ++ then_number id ++ then_word (dump_name set level) ++ codes " parent" ++ then_number parent ++ codes " volumes" ++ then_number volumes ++ codes " tapes" ++ then_number tapes ++ line_feed

-- a dump that would be made, and a volume of it with the time from which on its changes would be dumped
abbrev pub would_dump_line : List ℕ → List ℕ → ℕ → List ℕ
would_dump_line set level parent = codes "would dump" ++ then_word (dump_name set level) ++ codes " parent" ++ then_number parent ++ line_feed

-- a volume that would be dumped, and the time from which on its changes would be
abbrev pub would_volume_line : List ℕ → ℕ → List ℕ
would_volume_line name from = codes "volume" ++ then_word name ++ codes " from" ++ then_number from ++ line_feed

-- ---- restores

-- the name that a volume gets, the dump that it comes from, and how many dumps its chain has
abbrev pub from_chain : List ℕ → ℕ → ℕ → List ℕ
from_chain target id chain = then_word target ++ codes " from" ++ then_number id ++ codes " chain" ++ then_number chain ++ line_feed

-- a volume that was restored, or would be
abbrev pub restored_line : List ℕ → ℕ → ℕ → List ℕ
restored_line target id chain = codes "restored" ++ from_chain target id chain

-- a volume that would be restored: the name that it would get, the dump, and how many dumps its chain has
abbrev pub would_restore_line : List ℕ → ℕ → ℕ → List ℕ
would_restore_line target id chain = codes "would restore" ++ from_chain target id chain

-- a tape that a restore needs, and the first id of its dump set
abbrev pub need_line : List ℕ → ℕ → List ℕ
need_line name initial = codes "tape" ++ then_word name ++ then_number initial ++ line_feed
