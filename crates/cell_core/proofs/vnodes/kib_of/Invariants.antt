use Rattle.std.proofs.Common.{◌≡◌, ◌*◌, ◌≤◌, take}
use Rattle.cell_core.specs.Vnodes.{kib_of}
use Rattle.cell_core.proofs.vnodes.kib_of.Given as goal

abbrev pub invariant-loop-vnode : goal.invariant-loop-vnode
invariant-loop-vnode l = (l.kib ≡ kib_of (take l.vnode-index l.vnodes)) × (l.kib ≤ 16384 * l.vnode-index)
