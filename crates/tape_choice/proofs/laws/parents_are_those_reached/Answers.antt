use Rattle.tape_choice.proofs.ParentLaws.{all_reached, only_reached}
use Rattle.tape_choice.proofs.laws.parents_are_those_reached.Goals as goal

pub returns : goal.returns
returns c = λ listed id d lower. (all_reached listed id d lower, only_reached listed id d)
