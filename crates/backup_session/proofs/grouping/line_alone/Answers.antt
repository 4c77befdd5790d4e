use Rattle.std.proofs.Common.{sym, ◌∙◌, ap, subst, IfOk}
use Rattle.backup_words.specs.declared.command.GroupCommand.{GroupCommand}
use Rattle.backup_words.specs.declared.command.GroupCommand.TheVariants as groups
use Rattle.group_commands.specs.Groups.{opened}
use Rattle.backup_session.specs.Groups.{with_open, group_alone, LeavesGroups}
use Rattle.backup_session.proofs.GroupLaws.{no_group_left, kill_word, end_word}
use Rattle.backup_session.proofs.grouping.line_alone.Goals as goal

pub returns-in_ok-text-in-Together : goal.returns-in_ok-text-in-Together
returns-in_ok-text-in-Together c = λ w same.
    subst (λ (x : GroupCommand). LeavesGroups (group_alone w x) c.begin.new.self c.in_ok-text-in-Together.text) (sym c.in-Together.is)
    (record { groups = c.begin.ensures ∙ ap (with_open (opened c.in-Together.schedule)) same; reply = c.in_ok-text-in-Together.ensures })

pub returns-in-Kill : goal.returns-in-Kill
returns-in-Kill c = λ w same.
    subst (λ (x : GroupCommand). IfOk c.refused_word.result (LeavesGroups (group_alone w x) c.args.groups.now)) (sym c.in-Kill.is)
    (no_group_left w (groups.Kill c.in-Kill.job c.in-Kill.after) c.args.groups.now _ c.refused_word.result same (kill_word c.in-Kill.job c.in-Kill.after) c.refused_word.ensures)

pub returns-in-End : goal.returns-in-End
returns-in-End c = λ w same.
    subst (λ (x : GroupCommand). IfOk c.refused_word-in-End.result (LeavesGroups (group_alone w x) c.args.groups.now)) (sym c.in-End.is)
    (no_group_left w groups.End c.args.groups.now _ c.refused_word-in-End.result same end_word c.refused_word-in-End.ensures)
