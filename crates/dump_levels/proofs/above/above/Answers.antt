use Rattle.dump_levels.proofs.ElementLaws.{ok_above}
use Rattle.dump_levels.proofs.above.above.Goals as goal

pub returns-clause-is : goal.returns-clause-is
returns-clause-is c = ok_above c.args.path.now c.above.result c.bytes-text.ensures.form c.above.ensures
