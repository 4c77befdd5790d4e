use Rattle.std.proofs.Common.{take}
use Rattle.std.specs.Prelude.{All}
use Rattle.dump_stream.specs.Allowed.{AllowedVnode}
use Rattle.dump_stream.proofs.said.vnodes_are_allowed.Given as goal

abbrev pub invariant-loop-vnode : goal.invariant-loop-vnode
invariant-loop-vnode l = All AllowedVnode (take l.vnode-index l.vnodes)
