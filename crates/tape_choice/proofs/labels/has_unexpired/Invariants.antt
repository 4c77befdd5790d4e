use Rattle.std.proofs.Common.{◌≡◌, take, false}
use Rattle.tape_choice.specs.Choice.{has_unexpired}
use Rattle.tape_choice.proofs.labels.has_unexpired.Given as goal

abbrev pub invariant-loop-dump : goal.invariant-loop-dump
invariant-loop-dump l = has_unexpired (take l.dump-index l.listed) l.fn.time l.fn.initial ≡ false
