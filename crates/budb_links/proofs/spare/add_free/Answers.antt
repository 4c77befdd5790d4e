use Rattle.std.proofs.Common.{ℕ, ◌+◌, ◌++◌, ◌∷◌, [], List, arith, ◌∙◌, ap}
use Rattle.budb_links.proofs.Room.{numbers_more}
use Rattle.budb_links.proofs.spare.add_free.Goals as goal

pub loop-more-preserved : goal.loop-more-preserved
loop-more-preserved c = record {
  items =
      c.push_reserved.ensures.items
      ∙ ap (λ (t : List ℕ). t ++ (c.args.first + c.loop-more.more) ∷ []) c.loop-more.invariant.items
      ∙ numbers_more c.args.free.now.items c.args.first c.loop-more.more;
  long = omega (arith, c.push_reserved.ensures.len, c.loop-more.invariant.long);
  capacity = c.push_reserved.ensures.capacity ∙ c.loop-more.invariant.capacity;
}
