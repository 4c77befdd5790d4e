use Rattle.std.proofs.Common.{arith}
use Rattle.budb_index.proofs.Taking.{records_further}
use Rattle.budb_index.proofs.following.records_in.Goals as goal

pub loop-one-preserved : goal.loop-one-preserved
loop-one-preserved c =
    let further = records_further c.args.coming.now c.loop-one.one-index c.one-item.result c.loop-one-test.true c.one-item.is in
    record {
      count = omega (arith, further, c.records_of-count.ensures.is, c.loop-one.invariant.count);
      small = omega (arith, c.records_of-count.ensures.most, c.loop-one.invariant.small);
    }
