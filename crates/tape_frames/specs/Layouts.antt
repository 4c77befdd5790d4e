-- The table of frames: what the fields of each kind are, and their bytes one behind another.
-- `four` is a number of four bytes, the most significant one first; `text1` and `text2` are a text behind its length.
use Rattle.std.specs.Prelude.{◌≡◌, ◌≢◌, ◌⊎◌, ◌-◌, ◌<◌, ◌≤◌, ℕ, List, [], ◌++◌, length, drop, replicate, All}
use Rattle.bk_text.specs.Alphabets.{IsName, IsHost, IsSetName, IsTapeName}
use Rattle.bk_text.specs.LevelPaths.{IsLevelPath}
use Rattle.byte_formats.specs.Bytes.{four, text1, text2}
use Rattle.byte_formats.specs.Forms.{IsFour, IsMaybe, base_most}
use Rattle.tape_frames.specs.declared.label.LabelFields.{LabelFields}
use Rattle.tape_frames.specs.declared.dump_head.DumpHeadFields.{DumpHeadFields}
use Rattle.tape_frames.specs.declared.vol_head.VolHeadFields.{VolHeadFields}
use Rattle.tape_frames.specs.declared.data.DataFields.{DataFields}
use Rattle.tape_frames.specs.declared.vol_end.VolEndFields.{VolEndFields}
use Rattle.tape_frames.specs.declared.dump_end.DumpEndFields.{DumpEndFields}

-- ---- the label of a tape: kind 1

-- the bytes of a label: initial dump's id, number of the tape, AFS name, permanent name
abbrev pub label_bytes : LabelFields → List ℕ
label_bytes a = four a.initial ++ (four a.tape ++ (text1 a.afs ++ text1 a.permanent))

-- The numbers fit four bytes, the names are tape names or empty, and the tape has both an initial dump and a number
-- in it, and then an AFS name, or neither of the two.
pub record FitsLabel (a : LabelFields) : Type 0 where
  pub initial : IsFour a.initial
  pub tape : IsFour a.tape
  pub afs : IsMaybe IsTapeName a.afs
  pub permanent : IsMaybe IsTapeName a.permanent
  pub carries : ((a.initial ≡ 0) × (a.tape ≡ 0)) ⊎ ((a.initial ≢ 0) × (a.tape ≢ 0) × (a.afs ≢ []))

-- ---- the head of a dump's part: kind 2

-- version 1
abbrev pub plain_head_bytes : DumpHeadFields → List ℕ
plain_head_bytes a = four a.id ++ (four a.initial ++ (four a.parent ++ (four a.expires ++ (four a.tape ++ (four a.part ++ (four a.volumes ++ (text1 a.set ++ (text2 a.level ++ text1 a.base))))))))

-- version 2
abbrev pub dump_head_bytes : DumpHeadFields → List ℕ
dump_head_bytes a = four a.id ++ (four a.initial ++ (four a.parent ++ (four a.expires ++ (four a.tape ++ (four a.part ++ (four a.volumes ++ (text1 a.set ++ (text2 a.level ++ (text1 a.base ++ (text1 a.cell ++ (text1 a.permanent ++ four a.uses)))))))))))

-- a head that tells no uses tells no cell and no permanent name: it is one of version 1
pub record FitsDumpHead (a : DumpHeadFields) : Type 0 where
  pub id : IsFour a.id
  pub initial : (1 ≤ a.initial) × (a.initial ≤ a.id)
  pub parent : IsFour a.parent
  pub expires : IsFour a.expires
  pub tape : (1 ≤ a.tape) × IsFour a.tape
  pub part : (1 ≤ a.part) × IsFour a.part
  pub volumes : (1 ≤ a.volumes) × IsFour a.volumes
  pub set : IsSetName a.set
  pub level : IsLevelPath a.level
  pub base : IsTapeName a.base × (length a.base ≤ base_most)
  pub cell : IsMaybe IsHost a.cell
  pub permanent : IsMaybe IsTapeName a.permanent
  pub uses : IsFour a.uses
  pub plain : a.uses ≡ 0 → (a.cell ≡ []) × (a.permanent ≡ [])

-- ---- the head of a volume's fragment: kind 3

-- the bytes of a fragment's head: six numbers of four bytes, then the volume's name, its server and its partition
abbrev pub vol_head_bytes : VolHeadFields → List ℕ
vol_head_bytes a = four a.dump ++ (four a.index ++ (four a.fragment ++ (four a.volume ++ (four a.clone ++ (four a.from ++ (text1 a.name ++ (text1 a.server ++ text1 a.partition)))))))

-- The numbers fit four bytes, fragments are counted from 1, and name, server and partition are spelled as such.
pub record FitsVolHead (a : VolHeadFields) : Type 0 where
  pub dump : IsFour a.dump
  pub index : IsFour a.index
  pub fragment : (1 ≤ a.fragment) × IsFour a.fragment
  pub volume : IsFour a.volume
  pub clone : IsFour a.clone
  pub from : IsFour a.from
  pub name : IsName a.name
  pub server : IsHost a.server
  pub partition : IsName a.partition

-- ---- a piece of a volume's stream: kind 4

-- the bytes of a piece: dump's id, index of the volume, number of bytes used, 12 zeros, and 16,352 bytes of data
abbrev pub data_bytes : DataFields → List ℕ
data_bytes a = four a.dump ++ (four a.index ++ (four a.used ++ (replicate 12 0 ++ a.bytes)))

-- Of the 16,352 bytes of a piece 1 or more are used, and those behind the used ones are zeros.
pub record FitsData (a : DataFields) : Type 0 where
  pub dump : IsFour a.dump
  pub index : IsFour a.index
  pub used : (1 ≤ a.used) × (a.used ≤ 16352)
  pub size : length a.bytes ≡ 16352
  pub bytes : All (λ b. b < 256) a.bytes
  pub rest : drop a.used a.bytes ≡ replicate (16352 - a.used) 0

-- ---- the end of a volume's fragment: kind 5

-- the bytes of a fragment's end: dump's id, index of the volume, fragment, 1 for the last, number of stream bytes
abbrev pub vol_end_bytes : VolEndFields → List ℕ
vol_end_bytes a = four a.dump ++ (four a.index ++ (four a.fragment ++ (four a.last ++ four a.bytes)))

-- The numbers fit four bytes, and `last` is 1 where the volume's stream ends with this fragment, else 0.
pub record FitsVolEnd (a : VolEndFields) : Type 0 where
  pub dump : IsFour a.dump
  pub index : IsFour a.index
  pub fragment : IsFour a.fragment
  pub last : a.last ≤ 1
  pub bytes : IsFour a.bytes

-- ---- the end of a dump's part: kind 6

-- the bytes of a part's end: dump's id, number of the tape, and 1 where the dump goes on on another tape
abbrev pub dump_end_bytes : DumpEndFields → List ℕ
dump_end_bytes a = four a.dump ++ (four a.tape ++ four a.more)

-- The numbers fit four bytes, and `more` is 1 where the dump goes on on another tape, else 0.
pub record FitsDumpEnd (a : DumpEndFields) : Type 0 where
  pub dump : IsFour a.dump
  pub tape : IsFour a.tape
  pub more : a.more ≤ 1

-- ---- what whoever makes a frame has to see to, beside the types of its fields

-- either initial and tape are 0, or both aren't and the AFS name isn't empty
abbrev pub IsLabel : LabelFields → Type 0
IsLabel a = IsMaybe IsTapeName a.afs × IsMaybe IsTapeName a.permanent × (((a.initial ≡ 0) × (a.tape ≡ 0)) ⊎ ((a.initial ≢ 0) × (a.tape ≢ 0) × (a.afs ≢ [])))

-- id, initial, tape, part and volumes are at least 1, initial is at most id, the base has room for a number, and cell and
-- permanent name are told only where uses are
pub record IsDumpHead (a : DumpHeadFields) : Type 0 where
  pub initial : (1 ≤ a.initial) × (a.initial ≤ a.id)
  pub tape : 1 ≤ a.tape
  pub part : 1 ≤ a.part
  pub volumes : 1 ≤ a.volumes
  pub base : length a.base ≤ base_most
  pub cell : IsMaybe IsHost a.cell
  pub permanent : IsMaybe IsTapeName a.permanent
  pub plain : a.uses ≡ 0 → (a.cell ≡ []) × (a.permanent ≡ [])

-- 1 to 16,352 bytes are used, and behind them are zeros
abbrev pub IsData : DataFields → Type 0
IsData a = (1 ≤ a.used) × (a.used ≤ 16352) × (drop a.used a.bytes ≡ replicate (16352 - a.used) 0)
