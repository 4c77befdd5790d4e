use Rattle.dump_laws.proofs.BeginLaws.{first_taken}
use Rattle.dump_laws.proofs.begins.a_first_tape_is_taken_or_appended_to.Goals as goal

pub returns : goal.returns
returns c = first_taken
