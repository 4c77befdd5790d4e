use Rattle.std.proofs.Common.{sym, subst, ℕ, ◌<◌, ap}
use Rattle.plant_effects.proofs.Joining.{nothing_left}
use Rattle.backup_session.specs.Views.{SessionView}
use Rattle.backup_session.specs.Fitting.{FitsPlant}
use Rattle.backup_session.proofs.Shortening.{short_leaves}
use Rattle.std.specs.Prelude.{Err}
use Rattle.budb.specs.declared.fault.CommitFault.{CommitFault}
use Rattle.dump_courses.proofs.Stopping.{on_stop, left_standing, left_same}
use Rattle.backup_session.specs.declared.stops.Stop.TheVariants as stops
use Rattle.backup_session.proofs.session.Session.shorten.Goals as goal

pub returns-in_err-refused_number-in-Err-LogFull-clause-leaves : goal.returns-in_err-refused_number-in-Err-LogFull-clause-leaves
returns-in_err-refused_number-in-Err-LogFull-clause-leaves g c = λ told w fits.
    let P = g.P.Plant in
    let old = c.args.plant.now in
    let here : SessionView = record { config = c.self.inside.config; budb = c.self.inside.budb; time = c.self.inside.time; groups = c.self.inside.groups } in
    let there : FitsPlant P w old here = subst (λ (s : SessionView). FitsPlant P w old s) (sym c.self.view_is) fits in
    short_leaves P w old here there c.checkpoint.new.plant (λ told survives image left. g.met.P.Plant.left old image told c.requires survives left) c.checkpoint.ensures.over_same c.checkpoint.ensures.leaves

pub returns-in-Err-LogFull-clause-leaves : goal.returns-in-Err-LogFull-clause-leaves
returns-in-Err-LogFull-clause-leaves g c = λ told w fits.
    let P = g.P.Plant in
    let old = c.args.plant.now in
    let here : SessionView = record { config = c.self.inside.config; budb = c.self.inside.budb; time = c.self.inside.time; groups = c.self.inside.groups } in
    let there : FitsPlant P w old here = subst (λ (s : SessionView). FitsPlant P w old s) (sym c.self.view_is) fits in
    short_leaves P w old here there c.checkpoint.new.plant (λ told survives image left. g.met.P.Plant.left old image told c.requires survives left) c.checkpoint.ensures.over_same c.checkpoint.ensures.leaves

pub returns-clause-leaves : goal.returns-clause-leaves
returns-clause-leaves g c = λ told w fits.
    let P = g.P.Plant in
    let old = c.args.plant.now in
    let here : SessionView = record { config = c.self.inside.config; budb = c.self.inside.budb; time = c.self.inside.time; groups = c.self.inside.groups } in
    let there : FitsPlant P w old here = subst (λ (s : SessionView). FitsPlant P w old s) (sym c.self.view_is) fits in
    short_leaves P w old here there c.checkpoint.new.plant (λ told survives image left. g.met.P.Plant.left old image told c.requires survives left) c.checkpoint.ensures.over_same c.checkpoint.ensures.leaves

pub returns-in_err-done-clause-leaves : goal.returns-in_err-done-clause-leaves
returns-in_err-done-clause-leaves g c = λ told w fits. nothing_left g.P.Plant _ c.args.plant.now (λ told survives image left. g.met.P.Plant.left c.args.plant.now image told c.requires survives left)

pub returns-in_err-done-clause-stopped : goal.returns-in_err-done-clause-stopped
returns-in_err-done-clause-stopped g c = λ told w fits. on_stop stops.Plant _ _ (λ other. left_standing g.P.Plant _ c.args.plant.now w.state c.requires (λ _. fits.state))

pub returns-in_err-refused_number-in-Err-LogFull-clause-stopped : goal.returns-in_err-refused_number-in-Err-LogFull-clause-stopped
returns-in_err-refused_number-in-Err-LogFull-clause-stopped g c = λ told w fits.
    let arm = c.in-Err-LogFull in
    let full = arm.ensures.full arm.length (ap (λ (f : CommitFault). Err f) arm.field-0-is) in
    on_stop stops.Plant _ _ (λ other. left_same g.P.Plant _ c.args.plant.now c.checkpoint.new.plant w.state (c.checkpoint.ensures.over_same (subst (λ (n : ℕ). 268435456 < n) full.1 full.0)) c.requires (λ _. fits.state))

pub returns-clause-stopped : goal.returns-clause-stopped
returns-clause-stopped g c = λ told w fits other.
    left_same g.P.Plant _ c.args.plant.now c.checkpoint.new.plant w.state (c.in-Err-Memory.ensures.memory_same (ap (λ (f : CommitFault). Err f) c.in-Err-Memory.field-0-is)) c.requires (λ _. fits.state)
