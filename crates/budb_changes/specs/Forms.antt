-- The forms of changes: what the format can write.
use Rattle.std.specs.Prelude.{◌≡◌, ℕ, ◌≤◌, List, length, All}
use Rattle.bk_text.specs.Alphabets.{IsName, IsHost, IsSetName, IsTapeName}
use Rattle.bk_text.specs.LevelPaths.{IsLevelPath}
use Rattle.bk_text.specs.declared.expiry.Expiry.{Expiry}
use Rattle.bk_text.specs.declared.expiry.Expiry.TheVariants.{Unset, Never, At, In}
use Rattle.byte_formats.specs.Forms.{IsTwo, IsFour, IsBase, IsAnyOr, IsMaybe}
use Rattle.budb_changes.specs.declared.records.TapePart.{TapePart}
use Rattle.budb_changes.specs.declared.records.Frag.{Frag}
use Rattle.budb_changes.specs.declared.records.VolRecordFields.{VolRecordFields}
use Rattle.budb_changes.specs.declared.records.DumpRecordFields.{DumpRecordFields}
use Rattle.budb_changes.specs.declared.change.Change.{Change}
use Rattle.budb_changes.specs.declared.change.Change.TheVariants.{AddSet, DelSet, AddEntry, DelEntry, AddLevel, SetExpiry, DelLevel, AddHost, DelHost, Begin, Take, Done1, Forget, Found1, Done, Found}
use Rattle.budb_changes.specs.Printable.{IsPatternBytes}
use Rattle.budb_changes.specs.Plain.{IsPlain}
use Rattle.budb_changes.specs.Bytes.{encoded}

-- an expiration whose moment fits in four bytes, or whose years, months and days fit in two each
abbrev pub IsExpiry : Expiry → Type 0
IsExpiry Unset = Unit {0}
IsExpiry Never = Unit {0}
IsExpiry (At moment) = IsFour moment
IsExpiry (In years months days) = IsTwo years × IsTwo months × IsTwo days

-- a part of a dump on one tape: numbers of four bytes, and a permanent name that is a tape's name or empty
pub record IsTapePart (t : TapePart) : Type 0 where
  pub tape : IsFour t.tape
  pub first : IsFour t.first
  pub end : IsFour t.end
  pub marks : IsFour t.marks
  pub uses : IsFour t.uses
  pub permanent : IsMaybe IsTapeName t.permanent

-- where a fragment lies: the number of the tape in its dump set, and of the record, each of four bytes
pub record IsFrag (f : Frag) : Type 0 where
  pub tape : IsFour f.tape
  pub at : IsFour f.at

-- a volume's record: names of their forms, numbers and times of four bytes, and 1 to 65,535 fragments
pub record IsVolRecord (v : VolRecordFields) : Type 0 where
  pub name : IsName v.name
  pub id : IsFour v.id
  pub server : IsHost v.server
  pub partition : IsName v.partition
  pub clone : IsFour v.clone
  pub from : IsFour v.from
  pub some : 1 ≤ length v.frags
  pub most : length v.frags ≤ 65535
  pub each : All IsFrag v.frags

-- a dump's record: names of their forms, numbers of four bytes, at most 65,535 parts on tapes and fewer than 2^32
-- volumes, and a cell that is a host's name or empty
pub record IsDumpRecord (d : DumpRecordFields) : Type 0 where
  pub id : IsFour d.id
  pub initial : IsFour d.initial
  pub parent : IsFour d.parent
  pub expires : IsFour d.expires
  pub set : IsSetName d.set
  pub level : IsLevelPath d.level
  pub base : IsBase d.base
  pub few_tapes : length d.tapes ≤ 65535
  pub each_tape : All IsTapePart d.tapes
  pub few_volumes : length d.volumes ≤ 4294967295
  pub each_volume : All IsVolRecord d.volumes
  pub cell : IsMaybe IsHost d.cell

-- a change whose names have their forms and whose numbers fit their bytes; `Done1` and `Found1` are of version 1
abbrev pub IsChange : Change → Type 0
IsChange (AddSet set) = IsSetName set
IsChange (DelSet set) = IsSetName set
IsChange (AddEntry set server partition pattern) = IsSetName set × IsAnyOr IsHost server × IsAnyOr IsName partition × IsPatternBytes pattern
IsChange (DelEntry set number) = IsSetName set × IsFour number
IsChange (AddLevel level expiry) = IsLevelPath level × IsExpiry expiry
IsChange (SetExpiry level expiry) = IsLevelPath level × IsExpiry expiry
IsChange (DelLevel level) = IsLevelPath level
IsChange (AddHost host port) = IsHost host × IsTwo port
IsChange (DelHost port) = IsTwo port
IsChange (Begin id) = IsFour id
IsChange (Take initial) = IsFour initial
IsChange (Done1 dump) = IsDumpRecord dump × IsPlain dump
IsChange (Forget id) = IsFour id
IsChange (Found1 dump) = IsDumpRecord dump × IsPlain dump
IsChange (Done dump) = IsDumpRecord dump
IsChange (Found dump) = IsDumpRecord dump

-- a list of changes each of which has bytes; whether it fits a database isn't asked
abbrev pub AreChanges : List Change → Type 0
AreChanges = All IsChange

-- these bytes are those of a list of changes
abbrev pub IsLog : List ℕ → Type 0
IsLog bytes = (changes : List Change) × AreChanges changes × (bytes ≡ encoded changes)
