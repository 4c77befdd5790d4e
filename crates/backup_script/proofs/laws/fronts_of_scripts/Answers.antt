use Rattle.backup_script.proofs.HeldLaws.{held_front, held_behind}
use Rattle.backup_script.proofs.laws.fronts_of_scripts.Goals as goal

pub returns-clause-front : goal.returns-clause-front
returns-clause-front c = λ w moments lines more held. held_front lines more w moments held

pub returns-clause-behind : goal.returns-clause-behind
returns-clause-behind c = λ w moments lines more goes held. held_behind lines more w moments goes held
