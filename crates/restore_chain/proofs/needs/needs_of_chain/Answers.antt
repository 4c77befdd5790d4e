use Rattle.std.proofs.Common.{arith}
use Rattle.restore_chain.proofs.ChainNeeds.{needs_step}
use Rattle.restore_chain.proofs.needs.needs_of_chain.Goals as goal

pub loop-id-preserved : goal.loop-id-preserved
loop-id-preserved c =
    needs_step c.args.budb.now.database.listed c.args.ids.now c.loop-id.id-index c.args.name.now c.loop-id.needs.items c.push_listed.new.needs.items (omega (arith, c.loop-id-test.true)) c.loop-id.invariant c.in_ok-push_listed.ensures
