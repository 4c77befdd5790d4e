-- What an archive has when a dump is whole on its tapes.
use Rattle.std.specs.Prelude.{ℕ, Bool, ◌==◌, if◌then◌else◌, Option, Some, None, Result, List, find}
use Rattle.bk_text.specs.Blanks.{is_same_text}
use Rattle.vnode_model.specs.declared.volumes.VolumeFields.{VolumeFields}
use Rattle.cell_core.specs.declared.stored.Taken.{Taken}
use Rattle.budb_fold.specs.Lookups.{from_of}
use Rattle.archive_model.specs.Archives.{Refusal}
use Rattle.archive_model.specs.Sources.{clone_or_refusal}
use Rattle.budb_changes.specs.declared.records.VolRecordFields.{VolRecordFields}
use Rattle.budb_changes.specs.declared.records.DumpRecordFields.{DumpRecordFields}
use Rattle.dump_job.specs.declared.fields.JobFields.{JobFields}
use Rattle.dump_job.specs.Ending.{all_parts}
use Rattle.dump_laws.specs.Made.{Basis}

-- the clone of the volume of this name
abbrev pub is_clone_of : List ℕ → Taken → Bool
is_clone_of name c = is_same_text c.volume.header.name name

-- what a dump has of a volume: its clone; where it has what changed since the parent alone, and the parent's contents are a refusal,
-- that refusal
abbrev pub told_by : (ℕ → List ℕ → Result VolumeFields Refusal) → Basis → List ℕ → Option Taken → Result VolumeFields Refusal
told_by contents b name None = contents b.id name
told_by contents b name (Some c) = clone_or_refusal (contents b.above name) (from_of b.parent name c.born) c.volume

-- contents with those of a dump of these clones
abbrev pub with_dump : (ℕ → List ℕ → Result VolumeFields Refusal) → Basis → List Taken → ℕ → List ℕ → Result VolumeFields Refusal
with_dump contents b clones id name = if id == b.id then told_by contents b name (find (is_clone_of name) clones) else contents id name

-- the record of a dump over these volumes, once the part in hand is its last one
abbrev pub record_done : JobFields → List VolRecordFields → DumpRecordFields
record_done j volumes = record {
  id = j.head.id;
  initial = j.head.initial;
  parent = j.head.parent;
  expires = j.head.expires;
  set = j.head.set;
  level = j.head.level;
  base = j.head.base;
  tapes = all_parts j;
  volumes = volumes;
  cell = j.head.cell;
}
