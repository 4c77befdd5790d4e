use Rattle.std.proofs.Common.{sym, ◌∙◌, subst, IfOk, ◌≢◌}
use Rattle.std.specs.Prelude.{Err, OnErr}
use Rattle.plant_effects.specs.Runs.{Leaves}
use Rattle.plant_effects.proofs.Joining.{nothing_left}
use Rattle.dump_courses.specs.Ahead.{LeftAhead}
use Rattle.dump_courses.proofs.Stopping.{on_stop, left_standing}
use Rattle.backup_session.specs.declared.stops.Stop.TheVariants as stops
use Rattle.backup_session.specs.Worlds.{Turn}
use Rattle.backup_session.specs.Groups.{in_group}
use Rattle.backup_session.specs.Fitting.{TurnDone}
use Rattle.backup_session.proofs.Carrying.{in_ok}
use Rattle.backup_session.proofs.GroupLaws.{groups_turned, group_told, group_ends}
use Rattle.backup_session.proofs.LoadLaws.{restore_ends_none}
use Rattle.backup_session.proofs.session.Session.run_in_group.Goals as goal

pub returns-then-ends_group-clause-turned : goal.returns-then-ends_group-clause-turned
returns-then-ends_group-clause-turned g c = λ told seen w v fits opened.
    let P = g.P.Plant in
    let C = g.C.Cell in
    let old = c.args.plant.now in
    let ends = sym c.ends_group.ensures ∙ c.if-ends_group.true in
    subst (λ (t : Turn). IfOk c.end_open.result (λ reply. TurnDone P C w t old c.end_open.new.plant c.end_open.new.cell c.end_open.new.self reply)) (sym (group_ends w v c.args.command.now ends)) (c.end_open.ensures.turned told seen w v fits opened)

pub returns-then-ends_group-clause-leaves : goal.returns-then-ends_group-clause-leaves
returns-then-ends_group-clause-leaves g c = λ told seen w v fits opened.
    let P = g.P.Plant in
    let C = g.C.Cell in
    let old = c.args.plant.now in
    let ends = sym c.ends_group.ensures ∙ c.if-ends_group.true in
    subst (λ (t : Turn). Leaves P t.effects old c.end_open.new.plant) (sym (group_ends w v c.args.command.now ends)) (c.end_open.ensures.leaves told seen w v fits opened)

pub returns-then-ends_group-clause-stopped : goal.returns-then-ends_group-clause-stopped
returns-then-ends_group-clause-stopped g c = λ told seen w v fits opened.
    let P = g.P.Plant in
    let C = g.C.Cell in
    let old = c.args.plant.now in
    let ends = sym c.ends_group.ensures ∙ c.if-ends_group.true in
    subst (λ (t : Turn). OnErr c.end_open.result (c.end_open.result ≢ Err stops.Plant → LeftAhead P t.effects old c.end_open.new.plant)) (sym (group_ends w v c.args.command.now ends)) (c.end_open.ensures.stopped told seen w v fits opened)

pub returns-else-ends_group-clause-turned : goal.returns-else-ends_group-clause-turned
returns-else-ends_group-clause-turned g c = λ told seen w v fits opened.
    let more = sym c.ends_group.ensures ∙ c.if-ends_group.false in
    in_ok c.on_group.result _ _ (λ reply on. groups_turned g.P.Plant g.C.Cell w (in_group w v c.args.command.now) c.args.plant.now c.args.cell.now c.args.self.now c.on_group.new.self reply fits c.requires.sound (group_told w v c.args.command.now more) on)
    (c.on_group.ensures.turned w v fits.groups opened)

pub returns-else-ends_group-clause-leaves : goal.returns-else-ends_group-clause-leaves
returns-else-ends_group-clause-leaves g c = λ told seen w v fits opened.
    nothing_left g.P.Plant (in_group w v c.args.command.now).effects c.args.plant.now (λ tells survives image left. g.met.P.Plant.left c.args.plant.now image tells c.requires.sound survives left)

pub returns-else-ends_group-clause-stopped : goal.returns-else-ends_group-clause-stopped
returns-else-ends_group-clause-stopped g c = λ told seen w v fits opened.
    on_stop stops.Plant c.on_group.result _ (λ other. left_standing g.P.Plant (in_group w v c.args.command.now).effects c.args.plant.now w.state c.requires.sound (λ _. fits.state))

pub returns-then-ends_group-clause-restores : goal.returns-then-ends_group-clause-restores
returns-then-ends_group-clause-restores g c = λ asked is. (let both = sym (restore_ends_none c.args.command.now asked is) ∙ sym c.ends_group.ensures ∙ c.if-ends_group.true in absurd (cc))
