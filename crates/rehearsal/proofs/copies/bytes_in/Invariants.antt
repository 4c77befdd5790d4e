use Rattle.std.proofs.Common.{◌≡◌, take}
use Rattle.rehearsal.specs.Copies.{bytes_in}
use Rattle.rehearsal.proofs.copies.bytes_in.Given as goal

abbrev pub invariant-loop-vnode : goal.invariant-loop-vnode
invariant-loop-vnode l = l.bytes ≡ bytes_in (take l.vnode-index l.vnodes)
