use Rattle.std.proofs.Common.{◌<◌, length, arith, rules}
use Rattle.media_core.proofs.Emptying.{size_more, rest_more, done_more}
use Rattle.media_core.proofs.event.empty_in_all.Goals as goal

pub loop-index-preserved : goal.loop-index-preserved
loop-index-preserved c =
    let inv = c.loop-index.invariant in
    let old = c.args.past.now.items in
    let past = c.loop-index.past.items in
    let i = c.loop-index.index in
    let below : i < length old = search (rules, arith) in
    let is = c.index_mut.ensures.value in
    record {
      size = size_more old past i c.index_mut.result.now c.empty_in.new.event below inv.size is inv.rest;
      done = done_more old past i c.index_mut.result.now c.empty_in.new.event below inv.size is inv.rest c.empty_in.ensures inv.done;
      rest = rest_more old past i c.index_mut.result.now c.empty_in.new.event below inv.size is inv.rest;
    }
