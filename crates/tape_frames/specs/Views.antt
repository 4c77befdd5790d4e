-- Fields that were read and whose texts lie in a block still, as the fields of frames.
use Rattle.tape_frames.specs.declared.label.LabelFields.{LabelFields}
use Rattle.tape_frames.specs.declared.dump_head.DumpHeadFields.{DumpHeadFields}
use Rattle.tape_frames.specs.declared.vol_head.VolHeadFields.{VolHeadFields}
use Rattle.tape_frames.specs.declared.data.DataFields.{DataFields}
use Rattle.tape_frames.specs.declared.views.LabelView.{LabelView}
use Rattle.tape_frames.specs.declared.views.HeadView.{HeadView}
use Rattle.tape_frames.specs.declared.views.VolHeadView.{VolHeadView}
use Rattle.tape_frames.specs.declared.views.DataView.{DataView}

-- the fields of a label whose AFS name and permanent name lie in the block that was read
abbrev pub label_seen : LabelView → LabelFields
label_seen v = record { initial = v.initial; tape = v.tape; afs = v.afs.now; permanent = v.permanent.now }

-- the fields of a dump's head whose five texts, from the volume set on, lie in the block that was read
abbrev pub head_seen : HeadView → DumpHeadFields
head_seen v = record {
  id = v.id;
  initial = v.initial;
  parent = v.parent;
  expires = v.expires;
  tape = v.tape;
  part = v.part;
  volumes = v.volumes;
  set = v.set.now;
  level = v.level.now;
  base = v.base.now;
  cell = v.cell.now;
  permanent = v.permanent.now;
  uses = v.uses;
}

-- the fields of a fragment's head whose name, server and partition lie in the block that was read
abbrev pub vol_head_seen : VolHeadView → VolHeadFields
vol_head_seen v = record {
  dump = v.dump;
  index = v.index;
  fragment = v.fragment;
  volume = v.volume;
  clone = v.clone;
  from = v.from;
  name = v.name.now;
  server = v.server.now;
  partition = v.partition.now;
}

-- the fields of a piece of a volume's stream whose 16,352 bytes lie in the block that was read
abbrev pub data_seen : DataView → DataFields
data_seen v = record { dump = v.dump; index = v.index; used = v.used; bytes = v.bytes.now }
