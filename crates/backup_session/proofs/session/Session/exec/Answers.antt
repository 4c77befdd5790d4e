use Rattle.std.proofs.Common.{◌≡◌, sym, ap, subst, arith, IfOk, ◌≢◌}
use Rattle.std.specs.Prelude.{min, max, Err, OnErr}
use Rattle.backup_words.specs.declared.command.Command.{Command}
use Rattle.plant_effects.specs.Runs.{Leaves}
use Rattle.backup_session.specs.Views.{SessionView}
use Rattle.backup_session.specs.Worlds.{Turn, at_moment}
use Rattle.backup_session.specs.Scanning.{slots_here}
use Rattle.backup_session.specs.Machine.{done, turn}
use Rattle.backup_session.specs.Listing.{ListsWhole}
use Rattle.backup_session.specs.Again.{IsListedBehind}
use Rattle.backup_session.specs.Fitting.{TurnDone, OnTheWay}
use Rattle.backup_session.proofs.Carrying.{turn_done, stands_at, turned_at, some_at, in_ok, ok_anyway}
use Rattle.backup_session.proofs.TapeBounds.{stands_tapes}
use Rattle.backup_session.proofs.TurnLaws.{scan_lists, listed_again}
use Rattle.backup_session.specs.declared.stops.Stop.TheVariants as stops
use Rattle.dump_courses.specs.Ahead.{LeftAhead}
use Rattle.backup_session.proofs.session.Session.exec.Goals as goal

pub returns-clause-turned : goal.returns-clause-turned
returns-clause-turned g c = λ told seen w fits held.
    let P = g.P.Plant in
    let C = g.C.Cell in
    let old = c.args.plant.now in
    let later : SessionView = record { config = c.self.inside.config; budb = c.self.inside.budb; time = c.max-self-inside.result; groups = c.self.inside.groups } in
    let was = ap (λ (s : SessionView). s.time) c.self.view_is in
    let time : c.max-self-inside.result ≡ max c.args.self.now.time (min c.args.now 4294967295) = omega (arith, c.max-self-inside.ensures, c.min.ensures, was) in
    let moment = at_moment w c.args.now in
    let here = stands_at P C w old c.args.cell.now c.args.self.now fits c.args.now later (ap (λ (s : SessionView). s.budb) c.self.view_is) (ap (λ (s : SessionView). s.config) c.self.view_is) (ap (λ (s : SessionView). s.groups) c.self.view_is) time in
    subst (λ (t : Turn). IfOk c.run.result (λ reply. TurnDone P C w t old c.run.new.plant c.run.new.cell c.run.new.self reply)) (sym (turn_done w c.args.now c.args.command.now))
    (in_ok c.run.result _ _ (λ reply turned. turned_at P C w c.args.now (done moment c.args.command.now) old c.run.new.plant c.run.new.cell c.run.new.self reply turned) (c.run.ensures.turned told seen moment here held))

pub returns-clause-some_turn : goal.returns-clause-some_turn
returns-clause-some_turn g c = λ told seen w fits.
    let P = g.P.Plant in
    let C = g.C.Cell in
    let old = c.args.plant.now in
    let later : SessionView = record { config = c.self.inside.config; budb = c.self.inside.budb; time = c.max-self-inside.result; groups = c.self.inside.groups } in
    let was = ap (λ (s : SessionView). s.time) c.self.view_is in
    let time : c.max-self-inside.result ≡ max c.args.self.now.time (min c.args.now 4294967295) = omega (arith, c.max-self-inside.ensures, c.min.ensures, was) in
    let here = stands_at P C w old c.args.cell.now c.args.self.now fits c.args.now later (ap (λ (s : SessionView). s.budb) c.self.view_is) (ap (λ (s : SessionView). s.config) c.self.view_is) (ap (λ (s : SessionView). s.groups) c.self.view_is) time in
    some_at P C w c.args.now old c.run.new.plant c.run.new.cell c.run.new.self c.run.result (c.run.ensures.some_turn told seen (at_moment w c.args.now) here)

pub returns-clause-leaves : goal.returns-clause-leaves
returns-clause-leaves g c = λ told seen w fits.
    let P = g.P.Plant in
    let C = g.C.Cell in
    let old = c.args.plant.now in
    let later : SessionView = record { config = c.self.inside.config; budb = c.self.inside.budb; time = c.max-self-inside.result; groups = c.self.inside.groups } in
    let was = ap (λ (s : SessionView). s.time) c.self.view_is in
    let time : c.max-self-inside.result ≡ max c.args.self.now.time (min c.args.now 4294967295) = omega (arith, c.max-self-inside.ensures, c.min.ensures, was) in
    let here = stands_at P C w old c.args.cell.now c.args.self.now fits c.args.now later (ap (λ (s : SessionView). s.budb) c.self.view_is) (ap (λ (s : SessionView). s.config) c.self.view_is) (ap (λ (s : SessionView). s.groups) c.self.view_is) time in
    subst (λ (t : Turn). Leaves P t.effects old c.run.new.plant) (sym (turn_done w c.args.now c.args.command.now)) (c.run.ensures.leaves told seen (at_moment w c.args.now) here)

pub returns-clause-cells : goal.returns-clause-cells
returns-clause-cells g c = λ told seen w fits held.
    let P = g.P.Plant in
    let C = g.C.Cell in
    let old = c.args.plant.now in
    let later : SessionView = record { config = c.self.inside.config; budb = c.self.inside.budb; time = c.max-self-inside.result; groups = c.self.inside.groups } in
    let was = ap (λ (s : SessionView). s.time) c.self.view_is in
    let time : c.max-self-inside.result ≡ max c.args.self.now.time (min c.args.now 4294967295) = omega (arith, c.max-self-inside.ensures, c.min.ensures, was) in
    let here = stands_at P C w old c.args.cell.now c.args.self.now fits c.args.now later (ap (λ (s : SessionView). s.budb) c.self.view_is) (ap (λ (s : SessionView). s.config) c.self.view_is) (ap (λ (s : SessionView). s.groups) c.self.view_is) time in
    subst (λ (t : Turn). OnTheWay w.cell t.cells (C.list c.run.new.cell)) (sym (turn_done w c.args.now c.args.command.now)) (c.run.ensures.cells told seen (at_moment w c.args.now) here held)

pub returns-clause-tapes : goal.returns-clause-tapes
returns-clause-tapes g c = λ told seen w fits.
    let old = c.args.plant.now in
    stands_tapes g.P.Plant g.C.Cell w old c.args.cell.now c.args.self.now fits (g.met.P.Plant.few_slots old c.requires) (λ k here. g.met.P.Plant.here_below old k c.requires here) (λ k. g.met.P.Plant.short_tapes old k told c.requires)

pub returns-clause-scans : goal.returns-clause-scans
returns-clause-scans g c = λ told seen w fits alone offset port is here.
    ok_anyway c.run.result _ (subst (λ (command : Command). ListsWhole w (slots_here w.setting.present port) (turn w c.args.now command)) (sym is) (scan_lists w alone c.args.now offset port here))

pub returns-clause-again : goal.returns-clause-again
returns-clause-again g c = λ told seen w fits alone offset port is here none stock a records held these d there on.
    ok_anyway c.run.result _
    (subst (λ (command : Command). IsListedBehind w (slots_here w.setting.present port) (turn w c.args.now command) d) (sym is)
    (listed_again c.one_reading.ensures w alone c.args.now offset port here none stock a records held these d there on))

pub returns-clause-some_restore : goal.returns-clause-some_restore
returns-clause-some_restore g c = λ told seen w fits is.
    let P = g.P.Plant in
    let C = g.C.Cell in
    let old = c.args.plant.now in
    let later : SessionView = record { config = c.self.inside.config; budb = c.self.inside.budb; time = c.max-self-inside.result; groups = c.self.inside.groups } in
    let was = ap (λ (s : SessionView). s.time) c.self.view_is in
    let time : c.max-self-inside.result ≡ max c.args.self.now.time (min c.args.now 4294967295) = omega (arith, c.max-self-inside.ensures, c.min.ensures, was) in
    let here = stands_at P C w old c.args.cell.now c.args.self.now fits c.args.now later (ap (λ (s : SessionView). s.budb) c.self.view_is) (ap (λ (s : SessionView). s.config) c.self.view_is) (ap (λ (s : SessionView). s.groups) c.self.view_is) time in
    c.run.ensures.some_restore told seen (at_moment w c.args.now) here is

pub returns-clause-may : goal.returns-clause-may
returns-clause-may g c = λ told seen w fits asked is.
    let P = g.P.Plant in
    let C = g.C.Cell in
    let old = c.args.plant.now in
    let later : SessionView = record { config = c.self.inside.config; budb = c.self.inside.budb; time = c.max-self-inside.result; groups = c.self.inside.groups } in
    let was = ap (λ (s : SessionView). s.time) c.self.view_is in
    let time : c.max-self-inside.result ≡ max c.args.self.now.time (min c.args.now 4294967295) = omega (arith, c.max-self-inside.ensures, c.min.ensures, was) in
    let here = stands_at P C w old c.args.cell.now c.args.self.now fits c.args.now later (ap (λ (s : SessionView). s.budb) c.self.view_is) (ap (λ (s : SessionView). s.config) c.self.view_is) (ap (λ (s : SessionView). s.groups) c.self.view_is) time in
    c.run.ensures.may told seen (at_moment w c.args.now) here asked is

pub returns-clause-stopped : goal.returns-clause-stopped
returns-clause-stopped g c = λ told seen w fits.
    let P = g.P.Plant in
    let C = g.C.Cell in
    let old = c.args.plant.now in
    let later : SessionView = record { config = c.self.inside.config; budb = c.self.inside.budb; time = c.max-self-inside.result; groups = c.self.inside.groups } in
    let was = ap (λ (s : SessionView). s.time) c.self.view_is in
    let time : c.max-self-inside.result ≡ max c.args.self.now.time (min c.args.now 4294967295) = omega (arith, c.max-self-inside.ensures, c.min.ensures, was) in
    let here = stands_at P C w old c.args.cell.now c.args.self.now fits c.args.now later (ap (λ (s : SessionView). s.budb) c.self.view_is) (ap (λ (s : SessionView). s.config) c.self.view_is) (ap (λ (s : SessionView). s.groups) c.self.view_is) time in
    subst (λ (t : Turn). OnErr c.run.result (c.run.result ≢ Err stops.Plant → LeftAhead P t.effects old c.run.new.plant)) (sym (turn_done w c.args.now c.args.command.now)) (c.run.ensures.stopped told seen (at_moment w c.args.now) here)

pub returns-clause-loads : goal.returns-clause-loads
returns-clause-loads g c = λ told w fits asked is.
    let P = g.P.Plant in
    let C = g.C.Cell in
    let old = c.args.plant.now in
    let later : SessionView = record { config = c.self.inside.config; budb = c.self.inside.budb; time = c.max-self-inside.result; groups = c.self.inside.groups } in
    let was = ap (λ (s : SessionView). s.time) c.self.view_is in
    let time : c.max-self-inside.result ≡ max c.args.self.now.time (min c.args.now 4294967295) = omega (arith, c.max-self-inside.ensures, c.min.ensures, was) in
    let here = stands_at P C w old c.args.cell.now c.args.self.now fits c.args.now later (ap (λ (s : SessionView). s.budb) c.self.view_is) (ap (λ (s : SessionView). s.config) c.self.view_is) (ap (λ (s : SessionView). s.groups) c.self.view_is) time in
    c.run.ensures.loads told (at_moment w c.args.now) here asked is
