use Rattle.vnode_model.proofs.ApplyLaws.{restores}
use Rattle.vnode_model.proofs.following.increments_restore.Goals as goal

pub returns : goal.returns
returns c = restores
