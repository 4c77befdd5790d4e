use Rattle.std.proofs.Common.{◌≡◌, take}
use Rattle.tape_config.specs.Configs.{checks_names}
use Rattle.tape_config.proofs.entries.checks_at.Given as goal

abbrev pub invariant-loop-entry : goal.invariant-loop-entry
invariant-loop-entry l = l.on ≡ checks_names l.offset (take l.entry-index l.entries)
