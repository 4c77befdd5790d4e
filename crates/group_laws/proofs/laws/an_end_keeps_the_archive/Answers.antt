use Rattle.dump_archives.proofs.Kept.{on_the_way, each_keeps_listed}
use Rattle.group_commands.specs.Answers.{group_answer}
use Rattle.group_laws.proofs.GroupKept.{end_kept}
use Rattle.group_laws.proofs.laws.an_end_keeps_the_archive.Goals as goal

pub returns-clause-on_the_way : goal.returns-clause-on_the_way
returns-clause-on_the_way c = λ s g contents records form apart asks. on_the_way s contents (group_answer s g).answer (end_kept c.a_tape_is_read.ensures.one s contents records asks g form apart)

pub returns-clause-listed : goal.returns-clause-listed
returns-clause-listed c = λ s g contents records form apart asks. each_keeps_listed s contents (group_answer s g).answer (end_kept c.a_tape_is_read.ensures.one s contents records asks g form apart)

pub returns-clause-since : goal.returns-clause-since
returns-clause-since c = λ s g contents records form apart asks. (end_kept c.a_tape_is_read.ensures.one s contents records asks g form apart).since
