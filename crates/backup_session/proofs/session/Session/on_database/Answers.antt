use Rattle.std.proofs.Common.{◌≡◌, ◌≢◌, ◌∙◌, sym, ap, subst, IfOk}
use Rattle.std.specs.Prelude.{Err, OnErr}
use Rattle.plant_effects.specs.Runs.{Leaves}
use Rattle.plant_effects.proofs.Joining.{nothing_left}
use Rattle.budb_fold.specs.declared.database.Database.{Database}
use Rattle.budb_fold.specs.Chains.{HaveParentsBelow}
use Rattle.budb_fold.specs.Database.{after}
use Rattle.archive_model.proofs.ListedLaws.{all_below}
use Rattle.backup_session.specs.declared.verdict.Verdict.{Verdict}
use Rattle.backup_session.specs.Views.{SessionView}
use Rattle.backup_session.specs.Verdicts.{verdict}
use Rattle.backup_session.specs.Machine.{carried}
use Rattle.backup_session.specs.Fitting.{TurnedPlant}
use Rattle.dump_courses.specs.Ahead.{LeftAhead}
use Rattle.dump_courses.proofs.Stopping.{on_stop, left_standing}
use Rattle.backup_session.specs.declared.stops.Stop.TheVariants as stops
use Rattle.backup_session.proofs.session.Session.on_database.Goals as goal

pub returns-in_err-verdict-clause-leaves : goal.returns-in_err-verdict-clause-leaves
returns-in_err-verdict-clause-leaves g c = λ told w fits.
    let old = c.args.plant.now in
    nothing_left g.P.Plant (carried w (verdict (after w.log) c.args.command.now)).effects old (λ told survives image left. g.met.P.Plant.left old image told c.requires survives left)

pub returns-in_err-verdict-clause-stopped : goal.returns-in_err-verdict-clause-stopped
returns-in_err-verdict-clause-stopped g c = λ told w fits. on_stop stops.Plant _ _ (λ other. left_standing g.P.Plant _ c.args.plant.now w.state c.requires (λ _. fits.state))

-- what was decided is the world's verdict, whose dumps have their parents below them

pub returns-clause-turned : goal.returns-clause-turned
returns-clause-turned g c = λ told w fits.
    let db_is : c.self.inside.budb.database ≡ after w.log = ap (λ (s : SessionView). s.budb.database) c.self.view_is ∙ fits.keeps.fold in
    let below = subst (λ (d : Database). HaveParentsBelow d.listed) (sym db_is) (all_below w.log) in
    let is : c.in_ok-verdict.verdict ≡ verdict (after w.log) c.args.command.now = c.in_ok-verdict.ensures below ∙ ap (λ (d : Database). verdict d c.args.command.now) db_is in
    subst (λ (v : Verdict). IfOk c.carry.result (λ reply. TurnedPlant g.P.Plant w (carried w v) c.args.plant.now c.carry.new.plant c.carry.new.self reply)) is (c.carry.ensures.turned told w fits)

pub returns-clause-leaves : goal.returns-clause-leaves
returns-clause-leaves g c = λ told w fits.
    let db_is : c.self.inside.budb.database ≡ after w.log = ap (λ (s : SessionView). s.budb.database) c.self.view_is ∙ fits.keeps.fold in
    let below = subst (λ (d : Database). HaveParentsBelow d.listed) (sym db_is) (all_below w.log) in
    let is : c.in_ok-verdict.verdict ≡ verdict (after w.log) c.args.command.now = c.in_ok-verdict.ensures below ∙ ap (λ (d : Database). verdict d c.args.command.now) db_is in
    subst (λ (v : Verdict). Leaves g.P.Plant (carried w v).effects c.args.plant.now c.carry.new.plant) is (c.carry.ensures.leaves told w fits)

pub returns-clause-stopped : goal.returns-clause-stopped
returns-clause-stopped g c = λ told w fits.
    let db_is : c.self.inside.budb.database ≡ after w.log = ap (λ (s : SessionView). s.budb.database) c.self.view_is ∙ fits.keeps.fold in
    let below = subst (λ (d : Database). HaveParentsBelow d.listed) (sym db_is) (all_below w.log) in
    let is : c.in_ok-verdict.verdict ≡ verdict (after w.log) c.args.command.now = c.in_ok-verdict.ensures below ∙ ap (λ (d : Database). verdict d c.args.command.now) db_is in
    subst (λ (v : Verdict). OnErr c.carry.result (c.carry.result ≢ Err stops.Plant → LeftAhead g.P.Plant (carried w v).effects c.args.plant.now c.carry.new.plant)) is (c.carry.ensures.stopped told w fits)
