use Rattle.std.proofs.Common.{[], ◌∷◌, ◌∙◌, ap, subst, IfOk, ◌≢◌}
use Rattle.std.specs.Prelude.{Ok, Err, OnErr}
use Rattle.plant_effects.specs.Runs.{Leaves, Done}
use Rattle.plant_effects.proofs.Joining.{leaves_both, leaves_more}
use Rattle.budb_changes.specs.declared.change.Change.TheVariants.{Take}
use Rattle.budb_fold.specs.declared.database.Database.{Database}
use Rattle.backup_session.specs.Views.{SessionView}
use Rattle.backup_session.specs.Worlds.{Turn}
use Rattle.backup_session.specs.Tapes.{labeled, label_turn}
use Rattle.backup_session.specs.Fitting.{TurnedPlant}
use Rattle.backup_session.proofs.Carrying.{in_ok}
use Rattle.backup_session.proofs.Taking.{still_fits, front_turned, labels_are}
use Rattle.std.proofs.lemmas.Result.{err_from_is_err_and}
use Rattle.backup_session.specs.declared.stops.Stop.TheVariants as stops
use Rattle.dump_courses.specs.Ahead.{LeftAhead}
use Rattle.backup_session.proofs.Settling.{done_ahead}
use Rattle.dump_courses.proofs.Stopping.{on_stop, handed, stopped_map, left_none, left_behind}
use Rattle.backup_session.proofs.session.Session.label_tape.Goals as goal

pub returns-in_err-label-clause-leaves : goal.returns-in_err-label-clause-leaves
returns-in_err-label-clause-leaves g c = λ told w fits.
    leaves_more g.P.Plant [] (label_turn w c.args.name.now c.args.pname.now (Ok c.args.slot)).effects c.args.plant.now c.label_of.new.plant c.label_of.ensures.leaves

pub returns-in-None-clause-turned : goal.returns-in-None-clause-turned
returns-in-None-clause-turned g c = λ told w fits.
    let P = g.P.Plant in
    let old = c.args.plant.now in
    let mid = c.label_of.new.plant in
    let new = c.label_only-labeled.new.plant in
    let e = c.in_ok-old.ensures in
    let here = still_fits P w old mid c.args.self.now told fits e.done e.numbers e.stays.stays in
    let listed = c.as_slice.ensures ∙ ap (λ (d : Database). d.listed) (c.database.ensures ∙ ap (λ (s : SessionView). s.budb.database) c.self.view_is) in
    let is = labels_are P w old c.args.self.now fits c.args.slot c.args.name.now c.args.pname.now c.in_ok-old.old c.in_ok-label.label c.as_slice.result.now [] (e.label told) c.in_ok-label.ensures.label listed c.in-None.ensures in
    subst (λ (t : Turn). IfOk c.label_only-labeled.result (λ reply. TurnedPlant P w t old new c.label_only-labeled.new.self reply)) is
    (in_ok c.label_only-labeled.result _ _ (λ reply turned. front_turned P w (labeled w c.args.slot c.in_ok-label.label []) old mid new c.args.self.now c.label_only-labeled.new.self reply fits e.done turned) (c.label_only-labeled.ensures.turned told w here))

pub returns-in-None-clause-leaves : goal.returns-in-None-clause-leaves
returns-in-None-clause-leaves g c = λ told w fits.
    let P = g.P.Plant in
    let old = c.args.plant.now in
    let mid = c.label_of.new.plant in
    let new = c.label_only-labeled.new.plant in
    let e = c.in_ok-old.ensures in
    let here = still_fits P w old mid c.args.self.now told fits e.done e.numbers e.stays.stays in
    let listed = c.as_slice.ensures ∙ ap (λ (d : Database). d.listed) (c.database.ensures ∙ ap (λ (s : SessionView). s.budb.database) c.self.view_is) in
    let is = labels_are P w old c.args.self.now fits c.args.slot c.args.name.now c.args.pname.now c.in_ok-old.old c.in_ok-label.label c.as_slice.result.now [] (e.label told) c.in_ok-label.ensures.label listed c.in-None.ensures in
    subst (λ (t : Turn). Leaves P t.effects old new) is
    (leaves_both P [] (labeled w c.args.slot c.in_ok-label.label []).effects old mid new e.done c.label_of.ensures.leaves (c.label_only-labeled.ensures.leaves told w here))

pub returns-in-Some-clause-turned : goal.returns-in-Some-clause-turned
returns-in-Some-clause-turned g c = λ told w fits.
    let P = g.P.Plant in
    let old = c.args.plant.now in
    let mid = c.label_of.new.plant in
    let new = c.take_and_label-labeled.new.plant in
    let e = c.in_ok-old.ensures in
    let here = still_fits P w old mid c.args.self.now told fits e.done e.numbers e.stays.stays in
    let listed = c.as_slice.ensures ∙ ap (λ (d : Database). d.listed) (c.database.ensures ∙ ap (λ (s : SessionView). s.budb.database) c.self.view_is) in
    let is = labels_are P w old c.args.self.now fits c.args.slot c.args.name.now c.args.pname.now c.in_ok-old.old c.in_ok-label.label c.as_slice.result.now (Take c.in-Some.initial ∷ []) (e.label told) c.in_ok-label.ensures.label listed c.in-Some.ensures in
    subst (λ (t : Turn). IfOk c.take_and_label-labeled.result (λ reply. TurnedPlant P w t old new c.take_and_label-labeled.new.self reply)) is
    (in_ok c.take_and_label-labeled.result _ _ (λ reply turned. front_turned P w (labeled w c.args.slot c.in_ok-label.label (Take c.in-Some.initial ∷ [])) old mid new c.args.self.now c.take_and_label-labeled.new.self reply fits e.done turned) (c.take_and_label-labeled.ensures.turned told w here))

pub returns-in-Some-clause-leaves : goal.returns-in-Some-clause-leaves
returns-in-Some-clause-leaves g c = λ told w fits.
    let P = g.P.Plant in
    let old = c.args.plant.now in
    let mid = c.label_of.new.plant in
    let new = c.take_and_label-labeled.new.plant in
    let e = c.in_ok-old.ensures in
    let here = still_fits P w old mid c.args.self.now told fits e.done e.numbers e.stays.stays in
    let listed = c.as_slice.ensures ∙ ap (λ (d : Database). d.listed) (c.database.ensures ∙ ap (λ (s : SessionView). s.budb.database) c.self.view_is) in
    let is = labels_are P w old c.args.self.now fits c.args.slot c.args.name.now c.args.pname.now c.in_ok-old.old c.in_ok-label.label c.as_slice.result.now (Take c.in-Some.initial ∷ []) (e.label told) c.in_ok-label.ensures.label listed c.in-Some.ensures in
    subst (λ (t : Turn). Leaves P t.effects old new) is
    (leaves_both P [] (labeled w c.args.slot c.in_ok-label.label (Take c.in-Some.initial ∷ [])).effects old mid new e.done c.label_of.ensures.leaves (c.take_and_label-labeled.ensures.leaves told w here))

pub returns-in_err-old-clause-unfailed : goal.returns-in_err-old-clause-unfailed
returns-in_err-old-clause-unfailed g c = λ other.
    let e = err_from_is_err_and c.from_residual.result c.from_residual.ensures.1 in
    (handed stops.Plant _ c.from_residual.result (Done g.P.Plant [] c.args.plant.now c.label_of.new.plant) (e.1 ∙ ap Err e.2) c.in_err-old.ensures.stopped other).sound

pub returns-in_err-old-clause-stopped : goal.returns-in_err-old-clause-stopped
returns-in_err-old-clause-stopped g c = λ told w fits.
    let e = err_from_is_err_and c.from_residual.result c.from_residual.ensures.1 in
    on_stop stops.Plant _ _ (λ other. left_none g.P.Plant _ c.args.plant.now c.label_of.new.plant (done_ahead g.P.Plant [] c.args.plant.now c.label_of.new.plant w.state fits.state
    (handed stops.Plant _ c.from_residual.result (Done g.P.Plant [] c.args.plant.now c.label_of.new.plant) (e.1 ∙ ap Err e.2) c.in_err-old.ensures.stopped other)))

pub returns-in_err-label-clause-stopped : goal.returns-in_err-label-clause-stopped
returns-in_err-label-clause-stopped g c = λ told w fits. on_stop stops.Plant _ _ (λ other. left_none g.P.Plant _ c.args.plant.now c.label_of.new.plant (done_ahead g.P.Plant [] c.args.plant.now c.label_of.new.plant w.state fits.state c.in_ok-old.ensures.done))

pub returns-in-None-clause-stopped : goal.returns-in-None-clause-stopped
returns-in-None-clause-stopped g c = λ told w fits.
    let P = g.P.Plant in
    let old = c.args.plant.now in
    let mid = c.label_of.new.plant in
    let new = c.label_only-labeled.new.plant in
    let e = c.in_ok-old.ensures in
    let here = still_fits P w old mid c.args.self.now told fits e.done e.numbers e.stays.stays in
    let listed = c.as_slice.ensures ∙ ap (λ (d : Database). d.listed) (c.database.ensures ∙ ap (λ (s : SessionView). s.budb.database) c.self.view_is) in
    let is = labels_are P w old c.args.self.now fits c.args.slot c.args.name.now c.args.pname.now c.in_ok-old.old c.in_ok-label.label c.as_slice.result.now [] (e.label told) c.in_ok-label.ensures.label listed c.in-None.ensures in
    let es = (labeled w c.args.slot c.in_ok-label.label []).effects in
    subst (λ (t : Turn). OnErr c.label_only-labeled.result (c.label_only-labeled.result ≢ Err stops.Plant → LeftAhead P t.effects old new)) is
    (stopped_map stops.Plant c.label_only-labeled.result (LeftAhead P es mid new) (LeftAhead P es old new) (left_behind P [] es old mid new (done_ahead P [] old mid w.state fits.state e.done)) (c.label_only-labeled.ensures.stopped told w here))

pub returns-in-Some-clause-stopped : goal.returns-in-Some-clause-stopped
returns-in-Some-clause-stopped g c = λ told w fits.
    let P = g.P.Plant in
    let old = c.args.plant.now in
    let mid = c.label_of.new.plant in
    let new = c.take_and_label-labeled.new.plant in
    let e = c.in_ok-old.ensures in
    let here = still_fits P w old mid c.args.self.now told fits e.done e.numbers e.stays.stays in
    let listed = c.as_slice.ensures ∙ ap (λ (d : Database). d.listed) (c.database.ensures ∙ ap (λ (s : SessionView). s.budb.database) c.self.view_is) in
    let is = labels_are P w old c.args.self.now fits c.args.slot c.args.name.now c.args.pname.now c.in_ok-old.old c.in_ok-label.label c.as_slice.result.now (Take c.in-Some.initial ∷ []) (e.label told) c.in_ok-label.ensures.label listed c.in-Some.ensures in
    let es = (labeled w c.args.slot c.in_ok-label.label (Take c.in-Some.initial ∷ [])).effects in
    subst (λ (t : Turn). OnErr c.take_and_label-labeled.result (c.take_and_label-labeled.result ≢ Err stops.Plant → LeftAhead P t.effects old new)) is
    (stopped_map stops.Plant c.take_and_label-labeled.result (LeftAhead P es mid new) (LeftAhead P es old new) (left_behind P [] es old mid new (done_ahead P [] old mid w.state fits.state e.done)) (c.take_and_label-labeled.ensures.stopped told w here))
