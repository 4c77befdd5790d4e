use Rattle.backup_session.proofs.CellLaws.{on_the_way}
use Rattle.backup_session.proofs.vos.remove_vnode.Goals as goal

pub returns-clause-left : goal.returns-clause-left
returns-clause-left g c = λ told. on_the_way c.args.name.now c.args.number _ _ _ _ (c.remove_vnode-answer.ensures.answer told)
