use Rattle.std.proofs.Common.{◌≡◌, take, drop, length}
use Rattle.media_core.specs.Emptied.{NoJournal}
use Rattle.media_core.proofs.event.empty_in_all.Given as goal

abbrev pub invariant-loop-index : goal.invariant-loop-index
invariant-loop-index l = record {
  size : length l.past.items ≡ length l.fn.past.items;
  done : NoJournal (take l.index l.fn.past.items) (take l.index l.past.items);
  rest : drop l.index l.past.items ≡ drop l.index l.fn.past.items;
}
