-- WHAT THE END OF A GROUP ASKS of its dumps and of the configuration, beside what each dump asks of the scene.
use Rattle.std.specs.Prelude.{◌≡◌, ◌≢◌, ℕ, List, Some, All}
use Rattle.tape_config.specs.declared.line.Entry.{Entry}
use Rattle.tape_config.specs.declared.port.PortFields.{PortFields}
use Rattle.tape_config.specs.Configs.{port_in}
use Rattle.tape_config.specs.Ports.{AreApart}
use Rattle.dump_commands.specs.Forms.{IsCommandForm}
use Rattle.group_commands.specs.Groups.{GroupView, IsGroup}

-- the fields of its held dumps have their forms
pub record IsGroupForm (g : GroupView) : Type 0 where
  pub group : IsGroup g
  pub commands : All IsCommandForm g.held

-- two ports of a configuration have no slot in common
abbrev pub ArePortsApart : List Entry → Type 0
ArePortsApart entries = (one other : ℕ) (p q : PortFields) → one ≢ other → port_in one entries ≡ Some p → port_in other entries ≡ Some q → AreApart p q
