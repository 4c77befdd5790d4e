use Rattle.std.proofs.Common.{◌∙◌, sym, ap, refl, subst}
use Rattle.std.specs.Prelude.{Some}
use Rattle.tape_config.specs.Configs.{Settings, device_at, checks_names, port_in}
use Rattle.tape_config.specs.Ports.{AreApart}
use Rattle.tape_config.specs.declared.port.PortFields.{PortFields}
use Rattle.tape_config.proofs.PortLaws.{config_sound, device_within, apart_by_devices}
use Rattle.tape_config.proofs.config.Config.port.Goals as goal

pub new-requires : goal.new-requires
new-requires c =
    let kept : Settings = record { entries = c.self.inside.entries; cell = c.self.inside.cell } in
    let offset = c.args.offset in
    device_within kept.entries offset c.checks_at.result (Some c.in_ok-device.device) (config_sound kept c.self.invariant) (ap (device_at offset) (sym c.as_slice-entries.ensures) ∙ sym c.find_device.ensures ∙ c.in_ok-device.was)

pub returns-clause-apart : goal.returns-clause-apart
returns-clause-apart c other port differs e =
    let kept : Settings = record { entries = c.self.inside.entries; cell = c.self.inside.cell } in
    let offset = c.args.offset in
    subst (λ (q : PortFields). AreApart q port) (sym c.new.ensures) (apart_by_devices kept.entries offset other c.checks_at.result (checks_names other kept.entries) (Some c.in_ok-device.device) (device_at other kept.entries) port (config_sound kept c.self.invariant) differs (ap (device_at offset) (sym c.as_slice-entries.ensures) ∙ sym c.find_device.ensures ∙ c.in_ok-device.was) refl (ap (λ (s : Settings). port_in other s.entries) c.self.view_is ∙ e))
