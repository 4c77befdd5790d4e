use Rattle.std.proofs.Common.{◌≡◌, max, take, map}
use Rattle.std.specs.Prelude.{fold}
use Rattle.vnode_model.proofs.volumes.Volume.latest.Given as goal

abbrev pub invariant-loop-vnode : goal.invariant-loop-vnode
invariant-loop-vnode l = l.latest ≡ fold max l.self.header.created (map (λ v. v.server_modified) (take l.vnode-index l.vnode-items))
