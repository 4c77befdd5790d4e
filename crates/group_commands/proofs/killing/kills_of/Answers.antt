use Rattle.group_commands.proofs.KillLaws.{kills_next}
use Rattle.group_commands.proofs.killing.kills_of.Goals as goal

pub loop-kill-preserved : goal.loop-kill-preserved
loop-kill-preserved c = kills_next c.args.began.now c.args.kills.now c.loop-kill.kill-index _ c.loop-kill.of_pool c.add_kill.new.kills c.loop-kill-test.true c.in_ok-add_kill.ensures c.loop-kill.invariant
