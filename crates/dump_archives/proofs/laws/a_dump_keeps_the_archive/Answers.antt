use Rattle.dump_commands.specs.Answers.{dump_answer}
use Rattle.dump_archives.proofs.Answers.{answer_kept}
use Rattle.dump_archives.proofs.Kept.{on_the_way, each_keeps_listed}
use Rattle.dump_archives.proofs.laws.a_dump_keeps_the_archive.Goals as goal

pub returns-clause-on_the_way : goal.returns-clause-on_the_way
returns-clause-on_the_way c = λ s command contents records form asks. on_the_way s contents (dump_answer s command) (answer_kept c.a_tape_is_read.ensures.one s contents records asks command form)

pub returns-clause-listed : goal.returns-clause-listed
returns-clause-listed c = λ s command contents records form asks. each_keeps_listed s contents (dump_answer s command) (answer_kept c.a_tape_is_read.ensures.one s contents records asks command form)

pub returns-clause-since : goal.returns-clause-since
returns-clause-since c = λ s command contents records form asks. (answer_kept c.a_tape_is_read.ensures.one s contents records asks command form).since
