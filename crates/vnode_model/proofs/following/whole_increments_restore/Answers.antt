use Rattle.vnode_model.proofs.ChainLaws.{whole_restores}
use Rattle.vnode_model.proofs.following.whole_increments_restore.Goals as goal

pub returns : goal.returns
returns c = whole_restores
