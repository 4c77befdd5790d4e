use Rattle.group_commands.proofs.StartedGroups.{started_split, behind_state}
use Rattle.group_commands.proofs.laws.a_group_begins_first.Goals as goal

pub returns-clause-course : goal.returns-clause-course
returns-clause-course c = started_split

pub returns-clause-state : goal.returns-clause-state
returns-clause-state c = behind_state
