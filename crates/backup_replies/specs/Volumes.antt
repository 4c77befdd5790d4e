-- The volumes of a cell.
use Rattle.std.specs.Prelude.{ℕ, List, ◌∷◌, ◌++◌, codes}
use Rattle.std.specs.List.{flat_map}
use Rattle.vnode_model.specs.declared.listed.VolEntry.{VolEntry}
use Rattle.vnode_model.specs.declared.listed.EntryState.{EntryState}
use Rattle.vnode_model.specs.declared.listed.EntryState.TheVariants.{Good, Bad}
use Rattle.backup_replies.specs.Texts.{then_word, then_number, line_feed, ok_line}

-- name, id, server, partition and type of a volume; of a bad image its name and the place of its first wrong byte
abbrev pub state_line : EntryState → VolEntry → List ℕ
state_line (Good id kind latest) entry = codes "volume" ++ then_word entry.name ++ then_number id ++ then_word entry.server ++ then_word (47 ∷ entry.partition) ++ then_number kind ++ line_feed
state_line (Bad at) entry = codes "bad" ++ then_word entry.name ++ then_number at ++ line_feed

-- the line of a volume in the cell
abbrev pub listed_line : VolEntry → List ℕ
listed_line entry = state_line entry.state entry

-- the reply with all volumes of a cell, in the cell's order
abbrev pub listed_lines : List VolEntry → List ℕ
listed_lines entries = flat_map listed_line entries ++ ok_line
