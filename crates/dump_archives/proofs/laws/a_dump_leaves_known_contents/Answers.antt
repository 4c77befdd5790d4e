use Rattle.dump_archives.proofs.Answers.{answer_kept}
use Rattle.dump_archives.proofs.laws.a_dump_leaves_known_contents.Goals as goal

pub returns : goal.returns
returns c = λ s command contents records form asks. (answer_kept c.a_tape_is_read.ensures.one s contents records asks command form).others
