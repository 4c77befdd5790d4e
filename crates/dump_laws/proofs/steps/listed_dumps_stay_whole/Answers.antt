use Rattle.dump_laws.proofs.EventLaws.{all_held_on, all_held_left}
use Rattle.dump_laws.proofs.steps.listed_dumps_stay_whole.Goals as goal

pub returns-clause-kept : goal.returns-clause-kept
returns-clause-kept c = all_held_on

pub returns-clause-left : goal.returns-clause-left
returns-clause-left c = all_held_left
