-- The clone step: the volume in hand is done, and the next one is cloned.
use Rattle.std.specs.Prelude.{◌≡◌, ℕ, Option, Some, None, List, [], ◌∷◌, ◌++◌, length, slice_get}
use Rattle.vnode_model.specs.declared.listed.VolEntry.{VolEntry}
use Rattle.vnode_model.specs.Increments.{selected}
use Rattle.dump_stream.specs.Written.{written}
use Rattle.cell_core.specs.declared.stored.Stored.{Stored}
use Rattle.cell_core.specs.declared.stored.Taken.{Taken}
use Rattle.cell_core.specs.Calls.{entry_at, clone_at}
use Rattle.tape_frames.specs.declared.vol_head.VolHeadFields.{VolHeadFields}
use Rattle.budb_changes.specs.declared.records.VolRecordFields.{VolRecordFields}
use Rattle.budb_fold.specs.Lookups.{from_of}
use Rattle.dump_job.specs.declared.fields.Hand.{Hand}
use Rattle.dump_job.specs.declared.fields.JobFields.{JobFields}
use Rattle.dump_job.specs.declared.fields.Phase.TheVariants as phase

-- ---- what is done

-- the record of the volume in hand, whose last fragment stands on the tape of this number
abbrev pub record_with : ℕ → Hand → VolRecordFields
record_with tape h = record {
  name = h.head.name;
  id = h.head.volume;
  server = h.head.server;
  partition = h.head.partition;
  clone = h.head.clone;
  from = h.head.from;
  frags = h.frags ++ record { tape = tape; at = h.at } ∷ [];
}

-- the record of the volume in hand, behind those of the volumes before it
abbrev pub with_hand : ℕ → Option Hand → List VolRecordFields → List VolRecordFields
with_hand tape None volumes = volumes
with_hand tape (Some h) volumes = volumes ++ record_with tape h ∷ []

-- the records of the volumes that are done, that of the one in hand as the last
abbrev pub volumes_done : JobFields → List VolRecordFields
volumes_done j = with_hand j.head.tape j.hand j.volumes

-- ---- the next volume

-- A volume's from time goes by the parent's record: its clone time there, or 0.
abbrev pub from_time : JobFields → VolEntry → Taken → ℕ
from_time j e c = from_of j.parent e.name c.born

-- the head of its first fragment
abbrev pub first_head : JobFields → VolEntry → Taken → VolHeadFields
first_head j e c = record {
  dump = j.head.id;
  index = length (volumes_done j);
  fragment = 1;
  volume = c.volume.header.id;
  clone = c.time;
  from = from_time j e c;
  name = e.name;
  server = e.server;
  partition = e.partition;
}

-- Its stream is the increment of the clone since its from time.
abbrev pub first_hand : JobFields → VolEntry → Taken → Hand
first_hand j e c = record {
  head = first_head j e c;
  stream = written (selected c.volume (from_time j e c) c.time);
  frags = [];
  at = 0;
  bytes = 0;
}

-- The dump after a clone step: the volume before is done, the clone is in hand, and its first head is next.
abbrev pub cloned : VolEntry → Taken → JobFields → JobFields
cloned e c j = record j { volumes = volumes_done j; hand = Some (first_hand j e c); phase = phase.Head }

-- the next volume was cloned: that at its place in the cell's list, where contents are told
pub record Clones (told : Type 0) (cell : List Stored) (old new : JobFields) : Type 0 where
  pub place : ℕ
  pub entry : VolEntry
  pub clone : Taken
  pub next : slice_get old.places (length (volumes_done old)) ≡ Some place
  pub found : told → entry_at cell place ≡ Some entry
  pub taken : told → clone_at cell place old.time ≡ Some clone
  pub is : new ≡ cloned entry clone old
