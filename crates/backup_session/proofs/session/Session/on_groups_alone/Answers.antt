use Rattle.std.proofs.Common.{◌∙◌, ap}
use Rattle.backup_session.specs.Views.{SessionView}
use Rattle.backup_session.proofs.session.Session.on_groups_alone.Goals as goal

pub returns-clause-turned : goal.returns-clause-turned
returns-clause-turned c = λ w same.
    let left = c.in_ok-text.ensures w (ap (λ (s : SessionView). s.groups) c.self.view_is ∙ same) in
    record { text = c.new.ensures ∙ left.reply; session = λ i. record (c.self.view_is i) { groups = left.groups i } }
