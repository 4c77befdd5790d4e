use Rattle.std.proofs.Common.{◌≡◌, take}
use Rattle.group_commands.specs.Begins.{kills_of}
use Rattle.group_commands.proofs.killing.kills_of.Given as goal

abbrev pub invariant-loop-kill : goal.invariant-loop-kill
invariant-loop-kill l = l.of_pool ≡ kills_of l.began (take l.kill-index l.kills)
