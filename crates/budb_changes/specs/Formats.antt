-- The formats of changes and their parts, as what reading one answers.
use Rattle.std.specs.Prelude.{◌≡◌, ℕ, ◌≤◌, List, [], length, All}
use Rattle.bk_text.specs.Alphabets.{IsHost, IsSetName, IsTapeName}
use Rattle.bk_text.specs.LevelPaths.{IsLevelPath}
use Rattle.byte_formats.specs.Forms.{IsBase}
use Rattle.byte_formats.specs.Formats.{Format, pair, any_four, text1_of, text2_of, maybe, absent}
use Rattle.bk_text.specs.declared.expiry.Expiry.{Expiry}
use Rattle.budb_changes.specs.declared.version.Version.{Version}
use Rattle.budb_changes.specs.declared.version.Version.TheVariants.{One, Two}
use Rattle.budb_changes.specs.declared.records.TapePart.{TapePart}
use Rattle.budb_changes.specs.declared.records.Frag.{Frag}
use Rattle.budb_changes.specs.declared.records.VolRecordFields.{VolRecordFields}
use Rattle.budb_changes.specs.declared.records.DumpRecordFields.{DumpRecordFields}
use Rattle.budb_changes.specs.declared.change.Change.{Change}
use Rattle.budb_changes.specs.Plain.{IsPlainPart, IsPlain}
use Rattle.budb_changes.specs.Bytes.{expiry_kind, expiry_fields, expiry_bytes, tape_bytes, tapes_bytes, frag_bytes, frags_bytes, volume_bytes, volumes_bytes, dump_bytes, kind_of, fields_of, encoded_change}
use Rattle.budb_changes.specs.Forms.{IsExpiry, IsTapePart, IsFrag, IsVolRecord, IsDumpRecord, IsChange}

-- the parts of changes
abbrev pub expiry_form : Format Expiry
expiry_form = record { Is = IsExpiry; spelled = expiry_bytes }

-- an expiry of one kind, behind its byte
abbrev pub expiry_of_kind : ℕ → Format Expiry
expiry_of_kind k = record { Is = λ e. (expiry_kind e ≡ k) × IsExpiry e; spelled = expiry_fields }

-- the fields that version 2 has besides
abbrev pub use_form : Version → Format (ℕ × List ℕ)
use_form One = absent (0, [])
use_form Two = pair any_four (maybe IsTapeName)

-- the cell of a dump's record: version 1 has no bytes for it, and version 2 a host's name or an empty text
abbrev pub cell_form : Version → Format (List ℕ)
cell_form One = absent []
cell_form Two = maybe IsHost

-- what a version can tell of a tape, and of a dump
abbrev pub TellsPart : Version → TapePart → Type 0
TellsPart One t = IsPlainPart t
TellsPart Two t = Unit {0}

-- what a version can tell of a dump: in version 1 there are no uses, no permanent names and no cell
abbrev pub Tells : Version → DumpRecordFields → Type 0
Tells One d = IsPlain d
Tells Two d = Unit {0}

-- a part of a dump on one tape, with fields that fit their bytes, and no more than the version can tell
abbrev pub IsTape : Version → TapePart → Type 0
IsTape version t = IsTapePart t × TellsPart version t

-- a part of a dump on one tape in the bytes of a version
abbrev pub tape_form : Version → Format TapePart
tape_form version = record { Is = IsTape version; spelled = tape_bytes version }

-- the parts of a dump on its tapes, 0 to 65,535 of them, behind their count in two bytes
abbrev pub tapes_form : Version → Format (List TapePart)
tapes_form version = record { Is = λ ts. (length ts ≤ 65535) × All (IsTape version) ts; spelled = tapes_bytes version }

-- where a fragment of a volume lies: the tape's number in its dump set, and the record's, four bytes each
abbrev pub frag_form : Format Frag
frag_form = record { Is = IsFrag; spelled = frag_bytes }

-- the fragments of a volume, 1 to 65,535 of them, behind their count in two bytes
abbrev pub frags_form : Format (List Frag)
frags_form = record { Is = λ fs. (1 ≤ length fs) × (length fs ≤ 65535) × All IsFrag fs; spelled = frags_bytes }

-- a volume's record in a dump's record
abbrev pub volume_form : Format VolRecordFields
volume_form = record { Is = IsVolRecord; spelled = volume_bytes }

-- the volumes of a dump, fewer than 2^32 of them, behind their count in four bytes
abbrev pub volumes_form : Format (List VolRecordFields)
volumes_form = record { Is = λ vs. (length vs ≤ 4294967295) × All IsVolRecord vs; spelled = volumes_bytes }

-- a dump's record in the bytes of a version, which can tell all of it
abbrev pub dump_form : Version → Format DumpRecordFields
dump_form version = record { Is = λ d. IsDumpRecord d × Tells version d; spelled = dump_bytes version }

-- a change: the byte of its kind, and then its fields
abbrev pub change_form : Format Change
change_form = record { Is = IsChange; spelled = encoded_change }

-- a change of one kind, behind its byte
abbrev pub of_kind : ℕ → Format Change
of_kind k = record { Is = λ c. (kind_of c ≡ k) × IsChange c; spelled = fields_of }

-- four numbers one behind another
abbrev pub numbers : Format (ℕ × (ℕ × (ℕ × ℕ)))
numbers = pair any_four (pair any_four (pair any_four any_four))

-- what a record begins with: four numbers, then set, level and base
abbrev pub heading : Format ((ℕ × (ℕ × (ℕ × ℕ))) × (List ℕ × (List ℕ × List ℕ)))
heading = pair numbers (pair (text1_of IsSetName) (pair (text2_of IsLevelPath) (text1_of IsBase)))
