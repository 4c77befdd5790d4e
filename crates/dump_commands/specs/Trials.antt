-- What a trial tells: the dump that would be made, and from when on each volume's changes would be dumped.
use Rattle.std.specs.Prelude.{ℕ, List, [], ◌++◌, Option, Some, None}
use Rattle.std.specs.List.{flat_map}
use Rattle.vnode_model.specs.declared.listed.VolEntry.{VolEntry}
use Rattle.cell_core.specs.declared.stored.Stored.{Stored}
use Rattle.cell_core.specs.declared.stored.Taken.{Taken}
use Rattle.cell_core.specs.Calls.{entry_at, clone_at}
use Rattle.budb_changes.specs.declared.records.DumpRecordFields.{DumpRecordFields}
use Rattle.budb_fold.specs.Lookups.{record_of, from_of}
use Rattle.dump_job.specs.declared.order.DumpOrder.{DumpOrder}
use Rattle.backup_replies.specs.Restores.{would_dump_line, would_volume_line}
use Rattle.backup_replies.specs.Texts.{ok_line}

-- a volume, by its entry and its clone
abbrev pub volume_line : Option DumpRecordFields → Option VolEntry → Option Taken → List ℕ
volume_line parent (Some e) (Some c) = would_volume_line e.name (from_of parent e.name c.born)
volume_line parent (Some e) None = []
volume_line parent None taken = []

-- the volume at a place of the cell's list, which has a good one there
abbrev pub line_at : Option DumpRecordFields → List Stored → ℕ → ℕ → List ℕ
line_at parent cell time place = volume_line parent (entry_at cell place) (clone_at cell place time)

-- the lines of the volumes at these places
abbrev pub volume_lines : Option DumpRecordFields → List Stored → ℕ → List ℕ → List ℕ
volume_lines parent cell time places = flat_map (line_at parent cell time) places

-- The reply to a trial: the dump that would be made, a line for each volume, and that all is well.
abbrev pub trial_text : List DumpRecordFields → List Stored → DumpOrder → List ℕ
trial_text listed cell o = would_dump_line o.set o.level o.parent ++ volume_lines (record_of listed o.parent) cell o.time o.volumes ++ ok_line
