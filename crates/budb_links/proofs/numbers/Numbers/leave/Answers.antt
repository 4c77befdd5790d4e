use Rattle.budb_links.proofs.KeyLaws.{none_left}
use Rattle.budb_links.proofs.numbers.Numbers.leave.Goals as goal

pub returns-in_default-clause-used : goal.returns-in_default-clause-used
returns-in_default-clause-used c = λ other. none_left c.args.key.now c.args.self.now.used other c.in_default.ensures.absent
