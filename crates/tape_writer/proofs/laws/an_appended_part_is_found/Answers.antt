use Rattle.tape_writer.proofs.Placing.{stands_behind, found_behind}
use Rattle.tape_writer.proofs.laws.an_appended_part_is_found.Goals as goal

pub returns-clause-place : goal.returns-clause-place
returns-clause-place c = stands_behind

pub returns-clause-parts : goal.returns-clause-parts
returns-clause-parts c = found_behind
