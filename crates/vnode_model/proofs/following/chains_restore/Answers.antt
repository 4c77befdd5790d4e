use Rattle.vnode_model.proofs.ChainLaws.{chain_restores}
use Rattle.vnode_model.proofs.following.chains_restore.Goals as goal

pub returns : goal.returns
returns c = chain_restores
