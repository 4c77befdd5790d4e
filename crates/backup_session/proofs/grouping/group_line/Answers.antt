use Rattle.std.proofs.Common.{sym, subst, IfOk}
use Rattle.backup_words.specs.declared.command.GroupCommand.{GroupCommand}
use Rattle.backup_words.specs.declared.command.GroupCommand.TheVariants as groups
use Rattle.backup_session.specs.Groups.{group_in, LeavesGroups}
use Rattle.backup_session.proofs.GroupLaws.{barred_word, together_word, jobs_word}
use Rattle.backup_session.proofs.grouping.group_line.Goals as goal

pub returns-in-Together : goal.returns-in-Together
returns-in-Together c = λ w v same opened.
    subst (λ (x : GroupCommand). IfOk c.refused_word.result (LeavesGroups (group_in w v x) c.args.groups.now)) (sym c.in-Together.is)
    (barred_word w (groups.Together c.in-Together.schedule) c.args.groups.now _ c.refused_word.result same (together_word c.in-Together.schedule) c.refused_word.ensures)

pub returns-in-Kill : goal.returns-in-Kill
returns-in-Kill c = λ w v same opened.
    subst (λ (x : GroupCommand). IfOk c.kill_in.result (LeavesGroups (group_in w v x) c.kill_in.new.groups)) (sym c.in-Kill.is) (c.kill_in.ensures w v same opened)

pub returns-in-Jobs : goal.returns-in-Jobs
returns-in-Jobs c = λ w v same opened.
    subst (λ (x : GroupCommand). IfOk c.refused_word-in-Jobs.result (LeavesGroups (group_in w v x) c.args.groups.now)) (sym c.in-Jobs.is) (barred_word w groups.Jobs c.args.groups.now _ c.refused_word-in-Jobs.result same jobs_word c.refused_word-in-Jobs.ensures)
