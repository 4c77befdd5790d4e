use Rattle.std.proofs.Common.{◌≡◌, length}
use Rattle.std.specs.Prelude.{All}
use Rattle.restore_chain.specs.declared.keeping.Kept.TheVariants.{Unread}
use Rattle.restore_chain.proofs.tape_keeping.unread.Given as goal

abbrev pub invariant-loop-place : goal.invariant-loop-place
invariant-loop-place l = record {
  none : All (λ k. k ≡ Unread) l.kept.items;
  count : length l.kept.items ≡ l.place;
}
