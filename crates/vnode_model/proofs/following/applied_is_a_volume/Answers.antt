use Rattle.vnode_model.proofs.ChainLaws.{applied_fit}
use Rattle.vnode_model.proofs.following.applied_is_a_volume.Goals as goal

pub returns : goal.returns
returns c = applied_fit
