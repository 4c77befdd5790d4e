-- The forms of what a dump finds: the changes of its journal can be written, each number fits its bytes, and each text is one of its kind.
use Rattle.std.specs.Prelude.{◌≡◌, ℕ, ◌≤◌, List, Some, Ok, length, All}
use Rattle.bk_text.specs.Alphabets.{IsHost, IsSetName}
use Rattle.bk_text.specs.LevelPaths.{IsLevelPath}
use Rattle.byte_formats.specs.Forms.{IsFour, IsMaybe}
use Rattle.vnode_model.specs.declared.volumes.VolumeFields.{VolumeFields}
use Rattle.plant_core.specs.Records.{Record}
use Rattle.tape_config.specs.declared.port.PortFields.{PortFields}
use Rattle.tape_config.specs.Configs.{port_in, name_or_nothing}
use Rattle.budb_changes.specs.Forms.{AreChanges}
use Rattle.cell_core.specs.Forms.{IsVolumeForm, IsStoredForm}
use Rattle.dump_courses.specs.Scenes.{Scene}
use Rattle.backup_words.specs.declared.command.DumpCommand.{DumpCommand}
use Rattle.dump_commands.specs.Answers.{Contents}

-- Tapes of a port take at most 4,000,000,000 bytes.
pub record IsSceneForm (s : Scene) : Type 0 where
  pub log : AreChanges s.log
  pub cell : All IsStoredForm s.cell
  pub few : length s.cell ≤ 4294967295
  pub time : IsFour s.time
  pub name : IsMaybe IsHost (name_or_nothing s.config.cell)
  pub ports : (offset : ℕ) (port : PortFields) → port_in offset s.config.entries ≡ Some port → port.capacity ≤ 4000000000

-- the command's set and level are such names
pub record IsCommandForm (a : DumpCommand) : Type 0 where
  pub set : IsSetName a.set
  pub level : IsLevelPath a.level

-- no tape has more records than a number of four bytes counts
abbrev pub AreShort : (ℕ → List Record) → Type 0
AreShort tape = (k : ℕ) → length (tape k) ≤ 4294967295

-- what dumps have of volumes are volumes as the types allow them
abbrev pub AreVolumes : Contents → Type 0
AreVolumes contents = (id : ℕ) (name : List ℕ) (volume : VolumeFields) → contents id name ≡ Ok volume → IsVolumeForm volume
