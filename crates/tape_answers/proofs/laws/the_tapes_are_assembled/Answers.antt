use Rattle.tape_answers.proofs.FoundLaws.{found_there, one_found}
use Rattle.tape_answers.proofs.laws.the_tapes_are_assembled.Goals as goal

pub returns-clause-found : goal.returns-clause-found
returns-clause-found c = found_there

pub returns-clause-one : goal.returns-clause-one
returns-clause-one c = one_found
