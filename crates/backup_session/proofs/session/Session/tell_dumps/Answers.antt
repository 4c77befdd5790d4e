use Rattle.std.proofs.Common.{sym, subst, ◌≢◌}
use Rattle.std.specs.Prelude.{Bool, OnOk, Err, OnErr}
use Rattle.std.specs.List.{flat_map}
use Rattle.plant_effects.specs.Runs.{Leaves}
use Rattle.plant_effects.proofs.Joining.{nothing_left}
use Rattle.backup_replies.specs.Scans.{found_line}
use Rattle.backup_session.specs.Scanning.{dumps_turn}
use Rattle.backup_session.specs.Fitting.{Stepped}
use Rattle.backup_session.proofs.ScanLaws.{said_stepped}
use Rattle.backup_session.specs.declared.stops.Stop.TheVariants as stops
use Rattle.dump_courses.specs.Ahead.{LeftAhead}
use Rattle.dump_courses.proofs.Stopping.{on_stop, left_standing}
use Rattle.backup_session.proofs.session.Session.tell_dumps.Goals as goal

pub returns-then-dbadd-clause-stepped : goal.returns-then-dbadd-clause-stepped
returns-then-dbadd-clause-stepped g c = λ told w fits.
    subst (λ (b : Bool). OnOk c.add_all.result (Stepped g.P.Plant w (dumps_turn w b c.args.dumps.now) c.args.plant.now c.add_all.new.plant c.add_all.new.self c.args.lines.now c.add_all.new.lines)) (sym c.if-dbadd.true) (c.add_all.ensures.stepped told w fits)

pub returns-then-dbadd-clause-leaves : goal.returns-then-dbadd-clause-leaves
returns-then-dbadd-clause-leaves g c = λ told w fits.
    subst (λ (b : Bool). Leaves g.P.Plant (dumps_turn w b c.args.dumps.now).effects c.args.plant.now c.add_all.new.plant) (sym c.if-dbadd.true) (c.add_all.ensures.leaves told w fits)

pub returns-in_err-put_dumps-clause-leaves : goal.returns-in_err-put_dumps-clause-leaves
returns-in_err-put_dumps-clause-leaves g c = λ told w fits.
    let old = c.args.plant.now in
    nothing_left g.P.Plant (dumps_turn w c.args.dbadd c.args.dumps.now).effects old (λ told survives image left. g.met.P.Plant.left old image told c.requires survives left)

pub returns-in_ok-put_dumps-clause-leaves : goal.returns-in_ok-put_dumps-clause-leaves
returns-in_ok-put_dumps-clause-leaves g c = λ told w fits.
    let old = c.args.plant.now in
    nothing_left g.P.Plant (dumps_turn w c.args.dbadd c.args.dumps.now).effects old (λ told survives image left. g.met.P.Plant.left old image told c.requires survives left)

pub returns-in_ok-put_dumps-clause-stepped : goal.returns-in_ok-put_dumps-clause-stepped
returns-in_ok-put_dumps-clause-stepped g c = λ told w fits.
    let P = g.P.Plant in
    let old = c.args.plant.now in
    subst (λ (b : Bool). Stepped P w (dumps_turn w b c.args.dumps.now) old old c.args.self.now c.args.lines.now c.put_dumps.new.lines) (sym c.if-dbadd.false)
    (said_stepped P w old c.args.self.now (flat_map found_line c.args.dumps.now) c.args.lines.now c.put_dumps.new.lines fits c.requires c.in_ok-put_dumps.ensures)

pub returns-then-dbadd-clause-stopped : goal.returns-then-dbadd-clause-stopped
returns-then-dbadd-clause-stopped g c = λ told w fits.
    subst (λ (b : Bool). OnErr c.add_all.result (c.add_all.result ≢ Err stops.Plant → LeftAhead g.P.Plant (dumps_turn w b c.args.dumps.now).effects c.args.plant.now c.add_all.new.plant)) (sym c.if-dbadd.true) (c.add_all.ensures.stopped told w fits)

pub returns-in_err-put_dumps-clause-stopped : goal.returns-in_err-put_dumps-clause-stopped
returns-in_err-put_dumps-clause-stopped g c = λ told w fits. on_stop stops.Plant _ _ (λ other. left_standing g.P.Plant _ c.args.plant.now w.state c.requires (λ _. fits.state))
