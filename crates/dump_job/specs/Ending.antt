-- The end of a part, and its place in the dump's record.
use Rattle.std.specs.Prelude.{ℕ, ◌+◌, List, [], ◌∷◌, ◌++◌, map}
use Rattle.tape_frames.specs.declared.frame.Frame.TheVariants as frames
use Rattle.tape_frames.specs.declared.dump_end.DumpEndFields.{DumpEndFields}
use Rattle.tape_text.specs.Items.{Item, Says, Filemark}
use Rattle.budb_changes.specs.declared.records.TapePart.{TapePart}
use Rattle.budb_changes.specs.declared.records.DumpRecordFields.{DumpRecordFields}
use Rattle.dump_job.specs.declared.fields.Filled.{Filled}
use Rattle.dump_job.specs.declared.fields.JobFields.{JobFields}
use Rattle.dump_job.specs.Cloning.{volumes_done}
use Rattle.dump_job.specs.Reels.{records_on}

-- The part ends with the number of its tape; more is 1 where the dump goes on on another tape.
abbrev pub part_end : ℕ → JobFields → DumpEndFields
part_end more j = record { dump = j.head.id; tape = j.head.tape; more = more }

-- the end of a part and a filemark, as they are put
abbrev pub part_end_items : ℕ → JobFields → List Item
part_end_items more j = Says (frames.DumpEnd (part_end more j)) ∷ Filemark ∷ []

-- The part in hand as the dump's record has it, when its end and a filemark stand behind what is counted.
abbrev pub closed_part : JobFields → TapePart
closed_part j = record {
  tape = j.head.tape;
  first = j.first;
  end = records_on j.reel + 2;
  marks = j.reel.marks + 1;
  uses = j.head.uses;
  permanent = j.head.permanent;
}

-- ---- the dump's record

-- where an ended part lies, as the dump's record has it
abbrev pub place_of_part : Filled → TapePart
place_of_part f = f.part

-- its parts, that in hand as the last
abbrev pub all_parts : JobFields → List TapePart
all_parts j = map place_of_part j.filled ++ closed_part j ∷ []

-- the record by which a dump is listed, with all its parts and volumes
abbrev pub done_record : JobFields → DumpRecordFields
done_record j = record {
  id = j.head.id;
  initial = j.head.initial;
  parent = j.head.parent;
  expires = j.head.expires;
  set = j.head.set;
  level = j.head.level;
  base = j.head.base;
  tapes = all_parts j;
  volumes = volumes_done j;
  cell = j.head.cell;
}
