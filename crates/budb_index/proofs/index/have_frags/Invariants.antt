use Rattle.std.proofs.Common.{◌≤◌, length, take}
use Rattle.std.specs.List.{AllByRecursion}
use Rattle.budb_index.proofs.index.have_frags.Given as goal

abbrev pub invariant-loop-volume : goal.invariant-loop-volume
invariant-loop-volume l = AllByRecursion (λ volume. 1 ≤ length volume.frags) (take l.volume-index l.volume-items)
