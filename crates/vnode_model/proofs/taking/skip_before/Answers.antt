use Rattle.vnode_model.proofs.TakingLaws.{ordered_less, skipped_at, skipped_behind}
use Rattle.vnode_model.proofs.taking.skip_before.Goals as goal

pub loop-rest-preserved-in-loop-rest : goal.loop-rest-preserved-in-loop-rest
loop-rest-preserved-in-loop-rest c =
    let xs = c.loop-rest.rest.items in
    let ys = c.pop_front.new.self.items in
    let before = c.begins_before.ensures.0 c.loop-rest-test.true in
    record {
      ordered = ordered_less xs ys c.pop_front.ensures.rest c.loop-rest.invariant.ordered;
      here = skipped_at c.args.number xs ys c.args.rest.now.items before c.pop_front.ensures.rest c.loop-rest.invariant.here;
      behind = skipped_behind c.args.number xs ys c.args.rest.now.items before c.pop_front.ensures.rest c.loop-rest.invariant.behind;
    }
