use Rattle.std.proofs.Common.{◌≡◌, drop}
use Rattle.tape_config.specs.Configs.{device_at}
use Rattle.tape_config.proofs.entries.find_device.Given as goal

abbrev pub invariant-loop-entry : goal.invariant-loop-entry
invariant-loop-entry l = device_at l.offset (drop l.entry-index l.entries) ≡ device_at l.offset l.entries
