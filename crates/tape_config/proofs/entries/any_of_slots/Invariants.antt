use Rattle.std.proofs.Common.{◌≡◌, take, false}
use Rattle.std.specs.List.{list_any}
use Rattle.tape_config.specs.Configs.{has_slot}
use Rattle.tape_config.proofs.entries.any_of_slots.Given as goal

abbrev pub invariant-loop-entry : goal.invariant-loop-entry
invariant-loop-entry l = list_any (has_slot l.first l.last) (take l.entry-index l.entries) ≡ false
