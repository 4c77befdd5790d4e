use Rattle.std.proofs.Common.{sym, ◌∙◌}
use Rattle.group_commands.proofs.Holding.{hold_refused}
use Rattle.group_commands.proofs.group.Group.hold.Goals as goal

pub returns-in-Some-clause-told : goal.returns-in-Some-clause-told
returns-in-Some-clause-told c = sym (hold_refused c.args.self.now c.args.command.now c.in-Some.text (sym c.in_ok-text.ensures ∙ c.in-Some.is))
