-- The forms of a world: each number fits its bytes, and each text is one of its kind.
use Rattle.std.specs.Prelude.{◌≡◌, ℕ, ◌≤◌, Option, Some, None}
use Rattle.bk_text.specs.Alphabets.{IsHost}
use Rattle.byte_formats.specs.Forms.{IsFour, IsMaybe}
use Rattle.cell_forms.specs.Forms.{IsCellForm}
use Rattle.tape_config.specs.declared.port.PortFields.{PortFields}
use Rattle.tape_config.specs.Configs.{port_in, name_or_nothing}
use Rattle.budb_changes.specs.Forms.{AreChanges}
use Rattle.dump_commands.specs.Forms.{AreVolumes}
use Rattle.backup_session.specs.Worlds.{World}
use Rattle.backup_session.specs.Bounded.{HasTapes}
use Rattle.group_commands.specs.Groups.{GroupView}
use Rattle.group_laws.specs.Forms.{IsGroupForm}

-- the held dumps of a group that is open have their forms
abbrev pub HasGroupForm : Option GroupView → Type 0
HasGroupForm None = Unit {0}
HasGroupForm (Some g) = IsGroupForm g

-- The tapes are as long as a plant's are; the journal is of changes; the cell's list is a cell's, of volumes as the types allow them, and
-- so is what dumps have of volumes; the time has four bytes; the configuration's cell is a host or not there; and tapes of a port take
-- at most 4,000,000,000 bytes; and so have the dumps that an open group holds.
pub record IsWorldForm (w : World) : Type 0 where
  pub tapes : HasTapes w
  pub log : AreChanges w.log
  pub cell : IsCellForm w.cell
  pub contents : AreVolumes w.contents
  pub time : IsFour w.time
  pub name : IsMaybe IsHost (name_or_nothing w.setting.config.cell)
  pub ports : (offset : ℕ) (port : PortFields) → port_in offset w.setting.config.entries ≡ Some port → port.capacity ≤ 4000000000
  pub group : HasGroupForm w.groups.open
