use Rattle.std.proofs.Common.{ℕ, List, sym, ◌∙◌, ap, subst, []}
use Rattle.std.specs.Prelude.{Result}
use Rattle.plant_effects.proofs.Joining.{nothing_left}
use Rattle.budb_fold.specs.Database.{after}
use Rattle.backup_session.specs.Views.{SessionView}
use Rattle.backup_session.specs.Tapes.{slot_of, read_turn}
use Rattle.backup_session.specs.Fitting.{TurnedPlant}
use Rattle.backup_session.proofs.Taking.{slot_is, only_said}
use Rattle.backup_session.specs.declared.stops.Stop.TheVariants as stops
use Rattle.dump_courses.specs.Ahead.{LeftAhead}
use Rattle.plant_effects.specs.Runs.{Done}
use Rattle.backup_session.proofs.Settling.{done_ahead}
use Rattle.dump_courses.proofs.Stopping.{on_stop, stopped_map, either, left_none, left_standing}
use Rattle.backup_session.proofs.session.Session.read.Goals as goal

pub returns-in_err-slot-clause-leaves : goal.returns-in_err-slot-clause-leaves
returns-in_err-slot-clause-leaves g c = λ told w fits.
    let old = c.args.plant.now in
    nothing_left g.P.Plant (read_turn w (slot_of w.setting (after w.log).hosts c.args.offset c.args.slot)).effects old (λ told survives image left. g.met.P.Plant.left old image told c.requires survives left)

pub returns-in-Err-clause-leaves : goal.returns-in-Err-clause-leaves
returns-in-Err-clause-leaves g c = λ told w fits.
    let old = c.args.plant.now in
    nothing_left g.P.Plant (read_turn w (slot_of w.setting (after w.log).hosts c.args.offset c.args.slot)).effects old (λ told survives image left. g.met.P.Plant.left old image told c.requires survives left)

pub returns-in-Err-clause-turned : goal.returns-in-Err-clause-turned
returns-in-Err-clause-turned g c = λ told w fits.
    let P = g.P.Plant in
    let old = c.args.plant.now in
    let hosts = c.hosts.ensures ∙ ap (λ (s : SessionView). s.budb.database.hosts) c.self.view_is in
    let is = sym c.in-Err.is ∙ slot_is P w old c.args.self.now fits c.self.inside.config c.hosts.result.now c.args.offset c.args.slot c.in_ok-slot.field-0 (ap (λ (s : SessionView). s.config) c.self.view_is) hosts c.in_ok-slot.ensures.is in
    subst (λ (r : Result ℕ (List ℕ)). TurnedPlant P w (read_turn w r) old old c.args.self.now c.new.result) is (only_said P w old c.args.self.now fits c.new.result c.in-Err.text c.requires c.new.ensures)

pub returns-in_err-slot-clause-stopped : goal.returns-in_err-slot-clause-stopped
returns-in_err-slot-clause-stopped g c = λ told w fits. on_stop stops.Plant _ _ (λ other. left_standing g.P.Plant _ c.args.plant.now w.state c.requires (λ _. fits.state))

pub returns-in-Ok-clause-unfailed : goal.returns-in-Ok-clause-unfailed
returns-in-Ok-clause-unfailed g c = λ other.
    (either stops.Plant c.read_label.result (Done g.P.Plant [] c.args.plant.now c.read_label.new.plant) c.read_label.ensures.done c.read_label.ensures.stopped other).sound

pub returns-in-Ok-clause-stopped : goal.returns-in-Ok-clause-stopped
returns-in-Ok-clause-stopped g c = λ told w fits.
    let P = g.P.Plant in
    let old = c.args.plant.now in
    let new = c.read_label.new.plant in
    let es = (read_turn w (slot_of w.setting (after w.log).hosts c.args.offset c.args.slot)).effects in
    stopped_map stops.Plant c.read_label.result (Done P [] old new) (LeftAhead P es old new) (λ done. left_none P es old new (done_ahead P [] old new w.state fits.state done)) c.read_label.ensures.stopped
