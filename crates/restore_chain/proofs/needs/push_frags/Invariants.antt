use Rattle.std.proofs.Common.{◌≡◌, ◌++◌, take}
use Rattle.std.specs.Prelude.{map}
use Rattle.restore_chain.specs.Planning.{need_at}
use Rattle.restore_chain.proofs.needs.push_frags.Given as goal

abbrev pub invariant-loop-frag : goal.invariant-loop-frag
invariant-loop-frag l = l.needs.items ≡ l.initial.needs.items ++ map (need_at l.dump) (take l.frag-index l.frags)
