use Rattle.std.proofs.Common.{refl, subst}
use Rattle.std.specs.Prelude.{Option, IfSome}
use Rattle.tape_config.specs.declared.port.PortFields.{PortFields}
use Rattle.tape_config.specs.Configs.{checks_names, device_at}
use Rattle.tape_config.specs.Ports.{IsWithinLimits}
use Rattle.tape_config.proofs.PortLaws.{config_sound, device_within}
use Rattle.tape_config.proofs.CellLaws.{cell_is_host}
use Rattle.tape_config.proofs.laws.a_configuration_has_its_forms.Goals as goal

pub returns-clause-ports : goal.returns-clause-ports
returns-clause-ports c = λ bytes settings is offset port there.
    subst (λ (r : Option PortFields). IfSome r IsWithinLimits) there
    (device_within settings.entries offset (checks_names offset settings.entries) (device_at offset settings.entries) (config_sound settings (record { bytes = bytes; says = is })) refl)

pub returns-clause-cell : goal.returns-clause-cell
returns-clause-cell c = cell_is_host c.form_tests.ensures.host
