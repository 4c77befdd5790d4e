-- What a dump's record keeps.
use Rattle.std.specs.Prelude.{◌≤◌, length, All}
use Rattle.bk_text.specs.Alphabets.{IsHost, IsTapeName}
use Rattle.byte_formats.specs.Forms.{IsMaybe, base_most}
use Rattle.budb_changes.specs.declared.records.TapePart.{TapePart}
use Rattle.budb_changes.specs.declared.records.DumpRecordFields.{DumpRecordFields}

-- a permanent name is a tape's name, or empty
abbrev pub IsNamed : TapePart → Type 0
IsNamed t = IsMaybe IsTapeName t.permanent

-- a base with room for a number, at most 65,535 tapes, fewer than 2^32 volumes, and names in their forms
pub record KeepsDump (d : DumpRecordFields) : Type 0 where
  pub base : length d.base ≤ base_most
  pub few_tapes : length d.tapes ≤ 65535
  pub named : All IsNamed d.tapes
  pub few_volumes : length d.volumes ≤ 4294967295
  pub cell : IsMaybe IsHost d.cell
