use Rattle.group_commands.proofs.SettledGroups.{answer_settled}
use Rattle.group_commands.proofs.laws.a_group_settles_all.Goals as goal

pub returns : goal.returns
returns c = answer_settled
