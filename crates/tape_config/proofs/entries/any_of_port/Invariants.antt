use Rattle.std.proofs.Common.{◌≡◌, take, false}
use Rattle.std.specs.List.{list_any}
use Rattle.tape_config.specs.Configs.{has_port}
use Rattle.tape_config.proofs.entries.any_of_port.Given as goal

abbrev pub invariant-loop-entry : goal.invariant-loop-entry
invariant-loop-entry l = list_any (has_port l.offset) (take l.entry-index l.entries) ≡ false
