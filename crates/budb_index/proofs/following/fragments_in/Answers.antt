use Rattle.std.proofs.Common.{◌≡◌, ◌+◌, take, arith}
use Rattle.budb_index.specs.Relistings.{fragments_in}
use Rattle.budb_index.proofs.Taking.{fragments_further}
use Rattle.budb_index.proofs.following.fragments_in.Goals as goal

pub loop-one-preserved : goal.loop-one-preserved
loop-one-preserved c =
    let i = c.loop-one.one-index in
    let xs = c.args.coming.now in
    let further = fragments_further xs i c.one-item.result c.loop-one-test.true c.one-item.is in
    let sum : c.in_ok-count.count ≡ fragments_in (take (i + 1) xs) = omega (arith, further, c.in_ok-count.ensures, c.fragments_of.ensures, c.loop-one.invariant) in
    sum
