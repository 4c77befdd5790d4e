use Rattle.std.proofs.Common.{◌++◌, ◌∷◌, [], List, None, arith, ◌∙◌, ap}
use Rattle.budb_links.proofs.Room.{blanks_more}
use Rattle.budb_links.proofs.shelf.add_blanks.Goals as goal

pub loop-more-preserved : goal.loop-more-preserved
loop-more-preserved g c = record {
  items =
      c.push_reserved.ensures.items
      ∙ ap (λ (t : List _). t ++ None ∷ []) c.loop-more.invariant.items
      ∙ blanks_more c.args.slots.now.items None c.loop-more._more;
  long = omega (arith, c.push_reserved.ensures.len, c.loop-more.invariant.long);
  capacity = c.push_reserved.ensures.capacity ∙ c.loop-more.invariant.capacity;
}
