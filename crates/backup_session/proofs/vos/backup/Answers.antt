use Rattle.backup_session.proofs.CellLaws.{on_the_way}
use Rattle.backup_session.proofs.vos.backup.Goals as goal

pub returns-clause-left : goal.returns-clause-left
returns-clause-left g c = λ told. on_the_way c.args.name.now 0 _ _ _ _ (c.backup-answer.ensures.answer told)
