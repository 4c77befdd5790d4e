use Rattle.backup_session.proofs.Carrying.{made_leaves}
use Rattle.std.proofs.Common.{ℕ, ◌<◌, ap, subst}
use Rattle.std.specs.Prelude.{Err}
use Rattle.budb.specs.declared.fault.CommitFault.{CommitFault}
use Rattle.dump_courses.proofs.Stopping.{on_stop, left_same}
use Rattle.backup_session.specs.declared.stops.Stop.TheVariants as stops
use Rattle.backup_session.proofs.session.Session.make.Goals as goal

pub returns-in_err-refused_number-in-Err-LogFull-clause-leaves : goal.returns-in_err-refused_number-in-Err-LogFull-clause-leaves
returns-in_err-refused_number-in-Err-LogFull-clause-leaves g c = λ told w fits.
    let old = c.args.plant.now in
    made_leaves g.P.Plant w c.args.changes.now c.args.text old c.commit.new.plant c.args.self.now fits (g.met.P.Plant.log_told old told c.requires) (λ told survives image left. g.met.P.Plant.left old image told c.requires survives left) c.commit.ensures.over_same c.commit.ensures.leaves

pub returns-in-Err-LogFull-clause-leaves : goal.returns-in-Err-LogFull-clause-leaves
returns-in-Err-LogFull-clause-leaves g c = λ told w fits.
    let old = c.args.plant.now in
    made_leaves g.P.Plant w c.args.changes.now c.args.text old c.commit.new.plant c.args.self.now fits (g.met.P.Plant.log_told old told c.requires) (λ told survives image left. g.met.P.Plant.left old image told c.requires survives left) c.commit.ensures.over_same c.commit.ensures.leaves

pub returns-clause-leaves : goal.returns-clause-leaves
returns-clause-leaves g c = λ told w fits.
    let old = c.args.plant.now in
    made_leaves g.P.Plant w c.args.changes.now c.args.text old c.commit.new.plant c.args.self.now fits (g.met.P.Plant.log_told old told c.requires) (λ told survives image left. g.met.P.Plant.left old image told c.requires survives left) c.commit.ensures.over_same c.commit.ensures.leaves

pub returns-in_err-refused_number-in-Err-LogFull-clause-stopped : goal.returns-in_err-refused_number-in-Err-LogFull-clause-stopped
returns-in_err-refused_number-in-Err-LogFull-clause-stopped g c = λ told w fits.
    let arm = c.in-Err-LogFull in
    let full = arm.ensures.full arm.length (ap (λ (f : CommitFault). Err f) arm.field-0-is) in
    on_stop stops.Plant _ _ (λ other. left_same g.P.Plant _ c.args.plant.now c.commit.new.plant w.state (c.commit.ensures.over_same (subst (λ (n : ℕ). 268435456 < n) full.1 full.0)) c.requires (λ _. fits.state))

pub returns-clause-stopped : goal.returns-clause-stopped
returns-clause-stopped g c = λ told w fits other.
    left_same g.P.Plant _ c.args.plant.now c.commit.new.plant w.state (c.in-Err-Memory.ensures.memory_same (ap (λ (f : CommitFault). Err f) c.in-Err-Memory.field-0-is)) c.requires (λ _. fits.state)
