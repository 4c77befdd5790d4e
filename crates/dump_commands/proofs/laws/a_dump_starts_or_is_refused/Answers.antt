use Rattle.dump_commands.proofs.Starting.{answer_begun, answer_refused}
use Rattle.dump_commands.proofs.laws.a_dump_starts_or_is_refused.Goals as goal

pub returns-clause-begun : goal.returns-clause-begun
returns-clause-begun c = answer_begun

pub returns-clause-refused : goal.returns-clause-refused
returns-clause-refused c = answer_refused
