use Rattle.std.proofs.Common.{◌≡◌, ◌++◌, map}
use Rattle.std.specs.Prelude.{AllPairs}
use Rattle.std.specs.List.{filter_map}
use Rattle.std.specs.Vec.Iter.{into_iter_items}
use Rattle.vnode_model.specs.Limits.{StandsBefore, number_of}
use Rattle.vnode_model.specs.Increments.{vnode_for, first_lacking}
use Rattle.vnode_model.specs.Taking.{AreOrdered}
use Rattle.vnode_model.proofs.taking.take_all.Given as goal

abbrev pub invariant-loop-entry : goal.invariant-loop-entry
invariant-loop-entry l = record {
  ordered : AreOrdered l.rest.items;
  numbers : AllPairs StandsBefore (map number_of (into_iter_items l.entry-iterator));
  lacking : first_lacking l.fn.rest.items l.fn.entries ≡ first_lacking l.rest.items (into_iter_items l.entry-iterator);
  found : filter_map (vnode_for l.fn.rest.items) l.fn.entries ≡ l.vnodes ++ filter_map (vnode_for l.rest.items) (into_iter_items l.entry-iterator);
}
