use Rattle.restore_chain.proofs.AnswerLaws.{looked_up_is, looked_up_only}
use Rattle.restore_chain.proofs.laws.a_look_up_is_computed.Goals as goal

pub returns-clause-is : goal.returns-clause-is
returns-clause-is c = looked_up_is

pub returns-clause-only : goal.returns-clause-only
returns-clause-only c = looked_up_only
