use Rattle.std.proofs.Common.{ap, get_or, subst, sym, arith}
use Rattle.std.proofs.lemmas.List.{take_all}
use Rattle.std.proofs.lemmas.List.Elements.{All-more, All-same}
use Rattle.dump_stream.specs.Allowed.{AllowedVnode}
use Rattle.dump_stream.proofs.said.vnodes_are_allowed.Goals as goal

pub loop-vnode-preserved : goal.loop-vnode-preserved
loop-vnode-preserved c = All-more AllowedVnode c.args.vnodes.now c.loop-vnode.vnode-index c.vnode-item.result c.loop-vnode-test.true c.loop-vnode.invariant (subst AllowedVnode c.vnode-item.is c.vnode_is_allowed.ensures)

pub returns : goal.returns
returns c = All-same AllowedVnode _ _ (sym (take_all c.loop-vnode.vnode-index c.args.vnodes.now c.loop-vnode-test.false)) c.loop-vnode.invariant
