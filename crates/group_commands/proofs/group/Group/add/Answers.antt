use Rattle.std.proofs.Common.{◌≡◌, ℕ, ◌+◌, ◌∷◌, [], ◌++◌, sym, ap, subst, ◌∙◌}
use Rattle.std.specs.Prelude.{None}
use Rattle.backup_words.specs.declared.command.DumpCommand.{DumpCommand}
use Rattle.backup_replies.specs.Groups.{held_line}
use Rattle.group_commands.specs.Groups.{GroupView, barred_option, hold_refusal}
use Rattle.group_commands.proofs.Holding.{held_is_group, told_held}
use Rattle.group_commands.proofs.group.Group.add.Goals as goal

pub invariant_of-self-2 : goal.invariant_of-self-2
invariant_of-self-2 c =
    let g : GroupView = record { schedule = c.self.inside.schedule; held = c.self.inside.held; kills = c.self.inside.kills } in
    held_is_group g (record g { held = c.push.new.self }) c.args.command.now c.self.invariant
    (subst (λ (v : GroupView). hold_refusal v c.args.command.now (barred_option c.args.command.now) ≡ None) (sym c.self.view_is) c.requires)
    (c.in_ok-push.ensures.ok ∙ ap (λ (x : DumpCommand). c.self.inside.held ++ x ∷ []) c.in_ok-copy.ensures)

pub returns-clause-told : goal.returns-clause-told
returns-clause-told c =
    told_held (record { schedule = c.self.inside.schedule; held = c.self.inside.held; kills = c.self.inside.kills }) c.args.self.now c.args.command.now c.push.new.self c.in_ok-text.text c.self.view_is c.requires
    (c.in_ok-push.ensures.ok ∙ ap (λ (x : DumpCommand). c.self.inside.held ++ x ∷ []) c.in_ok-copy.ensures)
    (c.in_ok-text.ensures ∙ ap (λ (n : ℕ). held_line (n + 1)) c.len.ensures)
