use Rattle.std.proofs.Common.{◌≡◌, ◌+◌, length, take, arith}
use Rattle.budb_links.specs.Frags.{frags_of}
use Rattle.budb_index.proofs.Taking.{frags_further}
use Rattle.budb_index.proofs.filling.frags_in.Goals as goal

pub loop-dump-preserved : goal.loop-dump-preserved
loop-dump-preserved c =
    let i = c.loop-dump.dump-index in
    let xs = c.args.listed.now in
    let further = frags_further xs i c.dump-item.result c.loop-dump-test.true c.dump-item.is in
    let sum : c.in_ok-count.count ≡ length (frags_of (take (i + 1) xs)) = omega (arith, further, c.in_ok-count.ensures, c.frag_count.ensures, c.loop-dump.invariant) in
    sum
