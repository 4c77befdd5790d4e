use Rattle.std.proofs.Common.{List, length, sym, ap, ◌∙◌}
use Rattle.std.specs.Prelude.{◌&&◌, nat_le}
use Rattle.backup_words.specs.declared.command.DumpCommand.{DumpCommand}
use Rattle.group_commands.proofs.Holding.{told_killed, nowhere_told}
use Rattle.group_commands.proofs.group.Group.kill.Goals as goal

pub returns-in_ok-push-clause-told : goal.returns-in_ok-push-clause-told
returns-in_ok-push-clause-told c =
    told_killed (record { schedule = c.self.inside.schedule; held = c.self.inside.held; kills = c.self.inside.kills }) c.args.self.now c.args.job c.args.after c.push.new.self c.in_ok-text.text c.self.view_is
    (ap (λ (l : List DumpCommand). nat_le 1 c.args.job && nat_le c.args.job (length l)) (sym c.as_slice.ensures) ∙ sym c.has_number.ensures ∙ c.if-has_number.true)
    c.in_ok-push.ensures.ok c.in_ok-text.ensures

pub returns-else-has_number-clause-told : goal.returns-else-has_number-clause-told
returns-else-has_number-clause-told c =
    nowhere_told (record { schedule = c.self.inside.schedule; held = c.self.inside.held; kills = c.self.inside.kills }) c.args.self.now c.args.job c.args.after c.refused_word.result c.self.view_is
    (ap (λ (l : List DumpCommand). nat_le 1 c.args.job && nat_le c.args.job (length l)) (sym c.as_slice.ensures) ∙ sym c.has_number.ensures ∙ c.if-has_number.false)
    c.refused_word.ensures
