use Rattle.dump_levels.proofs.ElementLaws.{ok_above}
use Rattle.backup_session.proofs.levels.above.Goals as goal

pub returns : goal.returns
returns c = ok_above c.args.path.now c.above.result c.bytes-bytes.ensures.form c.above.ensures
