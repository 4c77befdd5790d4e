use Rattle.std.proofs.Common.{ℕ, List, sym, ◌∙◌, ap, subst}
use Rattle.std.specs.Prelude.{Result}
use Rattle.tape_config.specs.declared.port.PortFields.{PortFields}
use Rattle.plant_effects.proofs.Joining.{nothing_left}
use Rattle.budb_fold.specs.Database.{after}
use Rattle.dump_courses.proofs.Stopping.{on_stop, left_standing}
use Rattle.backup_session.specs.declared.stops.Stop.TheVariants as stops
use Rattle.backup_session.specs.Views.{SessionView}
use Rattle.backup_session.specs.Scanning.{port_of}
use Rattle.backup_session.specs.Saves.{saved_turn}
use Rattle.backup_session.specs.Fitting.{TurnedPlant}
use Rattle.backup_session.proofs.Taking.{only_said}
use Rattle.backup_session.proofs.ScanLaws.{port_is}
use Rattle.backup_session.proofs.session.Session.save.Goals as goal

pub returns-in_err-port-clause-leaves : goal.returns-in_err-port-clause-leaves
returns-in_err-port-clause-leaves g c = λ told w fits.
    let old = c.args.plant.now in
    nothing_left g.P.Plant (saved_turn w (port_of w.setting.config (after w.log).hosts c.args.offset)).effects old (λ told survives image left. g.met.P.Plant.left old image told c.requires survives left)

pub returns-in-Err-clause-leaves : goal.returns-in-Err-clause-leaves
returns-in-Err-clause-leaves g c = λ told w fits.
    let old = c.args.plant.now in
    nothing_left g.P.Plant (saved_turn w (port_of w.setting.config (after w.log).hosts c.args.offset)).effects old (λ told survives image left. g.met.P.Plant.left old image told c.requires survives left)

pub returns-in-Err-clause-turned : goal.returns-in-Err-clause-turned
returns-in-Err-clause-turned g c = λ told w fits.
    let P = g.P.Plant in
    let old = c.args.plant.now in
    let hosts = c.hosts.ensures ∙ ap (λ (s : SessionView). s.budb.database.hosts) c.self.view_is in
    let is = sym c.in-Err.is ∙ port_is P w old c.args.self.now fits c.self.inside.config c.hosts.result.now c.args.offset c.in_ok-port.field-0 (ap (λ (s : SessionView). s.config) c.self.view_is) hosts c.in_ok-port.ensures in
    subst (λ (r : Result PortFields (List ℕ)). TurnedPlant P w (saved_turn w r) old old c.args.self.now c.new.result) is (only_said P w old c.args.self.now fits c.new.result c.in-Err.text c.requires c.new.ensures)

pub returns-in_err-port-clause-stopped : goal.returns-in_err-port-clause-stopped
returns-in_err-port-clause-stopped g c = λ told w fits. on_stop stops.Plant _ _ (λ other. left_standing g.P.Plant _ c.args.plant.now w.state c.requires (λ _. fits.state))
