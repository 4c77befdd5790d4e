use Rattle.std.proofs.Common.{ℕ, sym, ◌∙◌, ap, subst, IfOk, ◌≢◌}
use Rattle.std.specs.Prelude.{Err, OnErr, is_some}
use Rattle.plant_effects.specs.Runs.{Leaves}
use Rattle.dump_courses.specs.Ahead.{LeftAhead}
use Rattle.budb_fold.specs.Database.{after}
use Rattle.backup_session.specs.declared.stops.Stop.TheVariants as stops
use Rattle.backup_session.specs.Views.{SessionView}
use Rattle.backup_session.specs.Worlds.{Turn}
use Rattle.backup_session.specs.Groups.{in_group}
use Rattle.backup_session.specs.Machine.{done}
use Rattle.backup_session.specs.Fitting.{TurnDone, OnTheWay}
use Rattle.backup_session.proofs.Carrying.{list_stays, in_ok}
use Rattle.backup_session.proofs.Silent.{in_group_silent, somehow}
use Rattle.backup_session.proofs.GroupLaws.{done_open, done_alone, which_open, no_open, barred_restore, none_restored}
use Rattle.backup_session.specs.Loading.{restore_loads}
use Rattle.backup_session.proofs.LoadLaws.{none_loaded, Within}
use Rattle.backup_session.proofs.session.Session.run.Goals as goal

pub returns-then-is_some-clause-turned : goal.returns-then-is_some-clause-turned
returns-then-is_some-clause-turned g c = λ told seen w fits held.
    let P = g.P.Plant in
    let C = g.C.Cell in
    let old = c.args.plant.now in
    let site = c.args.cell.now in
    let v = which_open P C w old site c.args.self.now fits c.is_some.result (c.is_some.ensures ∙ ap (λ (s : SessionView). is_some s.groups.open) c.self.view_is) c.if-is_some.true in
    subst (λ (t : Turn). IfOk c.run_in_group.result (λ reply. TurnDone P C w t old c.run_in_group.new.plant c.run_in_group.new.cell c.run_in_group.new.self reply)) (done_open w v.0 c.args.command.now v.1)
    (c.run_in_group.ensures.turned told seen w v.0 fits v.1)

pub returns-then-is_some-clause-some_turn : goal.returns-then-is_some-clause-some_turn
returns-then-is_some-clause-some_turn g c = λ told seen w fits.
    let P = g.P.Plant in
    let C = g.C.Cell in
    let old = c.args.plant.now in
    let site = c.args.cell.now in
    let v = which_open P C w old site c.args.self.now fits c.is_some.result (c.is_some.ensures ∙ ap (λ (s : SessionView). is_some s.groups.open) c.self.view_is) c.if-is_some.true in
    somehow P C w (in_group w v.0 c.args.command.now) old c.run_in_group.new.plant c.run_in_group.new.cell c.run_in_group.new.self c.run_in_group.result (in_group_silent w v.0 c.args.command.now) (c.run_in_group.ensures.turned told seen w v.0 fits v.1)

pub returns-then-is_some-clause-some_restore : goal.returns-then-is_some-clause-some_restore
returns-then-is_some-clause-some_restore g c = λ told seen w fits is.
    let P = g.P.Plant in
    let C = g.C.Cell in
    let old = c.args.plant.now in
    let site = c.args.cell.now in
    let v = which_open P C w old site c.args.self.now fits c.is_some.result (c.is_some.ensures ∙ ap (λ (s : SessionView). is_some s.groups.open) c.self.view_is) c.if-is_some.true in
    in_ok c.run_in_group.result _ _ (λ reply turned. barred_restore P C w v.0 old c.run_in_group.new.plant c.run_in_group.new.cell c.run_in_group.new.self reply c.args.command.now is turned) (c.run_in_group.ensures.turned told seen w v.0 fits v.1)

pub returns-then-is_some-clause-may : goal.returns-then-is_some-clause-may
returns-then-is_some-clause-may g c = λ told seen w fits asked is.
    none_restored (after w.log) w.time asked w.cell (g.C.Cell.list c.run_in_group.new.cell) (c.run_in_group.ensures.list seen ∙ fits.cell)

pub returns-then-is_some-clause-leaves : goal.returns-then-is_some-clause-leaves
returns-then-is_some-clause-leaves g c = λ told seen w fits.
    let P = g.P.Plant in
    let C = g.C.Cell in
    let old = c.args.plant.now in
    let site = c.args.cell.now in
    let v = which_open P C w old site c.args.self.now fits c.is_some.result (c.is_some.ensures ∙ ap (λ (s : SessionView). is_some s.groups.open) c.self.view_is) c.if-is_some.true in
    subst (λ (t : Turn). Leaves P t.effects old c.run_in_group.new.plant) (done_open w v.0 c.args.command.now v.1) (c.run_in_group.ensures.leaves told seen w v.0 fits v.1)

pub returns-then-is_some-clause-stopped : goal.returns-then-is_some-clause-stopped
returns-then-is_some-clause-stopped g c = λ told seen w fits.
    let P = g.P.Plant in
    let C = g.C.Cell in
    let old = c.args.plant.now in
    let site = c.args.cell.now in
    let v = which_open P C w old site c.args.self.now fits c.is_some.result (c.is_some.ensures ∙ ap (λ (s : SessionView). is_some s.groups.open) c.self.view_is) c.if-is_some.true in
    subst (λ (t : Turn). OnErr c.run_in_group.result (c.run_in_group.result ≢ Err stops.Plant → LeftAhead P t.effects old c.run_in_group.new.plant)) (done_open w v.0 c.args.command.now v.1)
    (c.run_in_group.ensures.stopped told seen w v.0 fits v.1)

pub returns-then-is_some-clause-cells : goal.returns-then-is_some-clause-cells
returns-then-is_some-clause-cells g c = λ told seen w fits held.
    list_stays g.P.Plant g.C.Cell w c.args.plant.now c.args.cell.now c.args.self.now fits (done w c.args.command.now).cells (g.C.Cell.list c.run_in_group.new.cell) (c.run_in_group.ensures.list seen)

pub returns-else-is_some-clause-turned : goal.returns-else-is_some-clause-turned
returns-else-is_some-clause-turned g c = λ told seen w fits held.
    let P = g.P.Plant in
    let C = g.C.Cell in
    let old = c.args.plant.now in
    let site = c.args.cell.now in
    let none = no_open P C w old site c.args.self.now fits c.is_some.result (c.is_some.ensures ∙ ap (λ (s : SessionView). is_some s.groups.open) c.self.view_is) c.if-is_some.false in
    subst (λ (t : Turn). IfOk c.run_alone.result (λ reply. TurnDone P C w t old c.run_alone.new.plant c.run_alone.new.cell c.run_alone.new.self reply)) (done_alone w c.args.command.now none) (c.run_alone.ensures.turned told seen w fits held)

pub returns-else-is_some-clause-leaves : goal.returns-else-is_some-clause-leaves
returns-else-is_some-clause-leaves g c = λ told seen w fits.
    let P = g.P.Plant in
    let C = g.C.Cell in
    let old = c.args.plant.now in
    let site = c.args.cell.now in
    let none = no_open P C w old site c.args.self.now fits c.is_some.result (c.is_some.ensures ∙ ap (λ (s : SessionView). is_some s.groups.open) c.self.view_is) c.if-is_some.false in
    subst (λ (t : Turn). Leaves P t.effects old c.run_alone.new.plant) (done_alone w c.args.command.now none) (c.run_alone.ensures.leaves told seen w fits)

pub returns-else-is_some-clause-stopped : goal.returns-else-is_some-clause-stopped
returns-else-is_some-clause-stopped g c = λ told seen w fits.
    let P = g.P.Plant in
    let C = g.C.Cell in
    let old = c.args.plant.now in
    let site = c.args.cell.now in
    let none = no_open P C w old site c.args.self.now fits c.is_some.result (c.is_some.ensures ∙ ap (λ (s : SessionView). is_some s.groups.open) c.self.view_is) c.if-is_some.false in
    subst (λ (t : Turn). OnErr c.run_alone.result (c.run_alone.result ≢ Err stops.Plant → LeftAhead P t.effects old c.run_alone.new.plant)) (done_alone w c.args.command.now none) (c.run_alone.ensures.stopped told seen w fits)

pub returns-else-is_some-clause-cells : goal.returns-else-is_some-clause-cells
returns-else-is_some-clause-cells g c = λ told seen w fits held.
    let P = g.P.Plant in
    let C = g.C.Cell in
    let old = c.args.plant.now in
    let site = c.args.cell.now in
    let none = no_open P C w old site c.args.self.now fits c.is_some.result (c.is_some.ensures ∙ ap (λ (s : SessionView). is_some s.groups.open) c.self.view_is) c.if-is_some.false in
    subst (λ (t : Turn). OnTheWay w.cell t.cells (C.list c.run_alone.new.cell)) (done_alone w c.args.command.now none) (c.run_alone.ensures.cells told seen w fits held)

pub returns-then-is_some-clause-loads : goal.returns-then-is_some-clause-loads
returns-then-is_some-clause-loads g c = λ told w fits asked is.
    let P = g.P.Plant in
    let same = ap (λ p. (P.view p).loads) (c.run_in_group.ensures.restores asked is) in
    subst (λ (n : ℕ). Within (P.view c.args.plant.now).loads n (restore_loads w asked)) (sym same) (none_loaded (P.view c.args.plant.now).loads (restore_loads w asked))
