use Rattle.std.proofs.Common.{◌∙◌, ap}
use Rattle.std.specs.Prelude.{Err}
use Rattle.std.proofs.lemmas.Result.{err_from_is_err_and}
use Rattle.backup_session.specs.declared.stops.Stop.TheVariants as stops
use Rattle.dump_courses.proofs.Stopping.{on_stop, only_that}
use Rattle.backup_session.proofs.session.Session.label_only.Goals as goal

pub returns-in_err-write_label-clause-unfailed : goal.returns-in_err-write_label-clause-unfailed
returns-in_err-write_label-clause-unfailed g c =
    let e = err_from_is_err_and c.from_residual.result c.from_residual.ensures.1 in
    only_that stops.Plant _ c.from_residual.result _ (e.1 ∙ ap Err e.2) (c.in_err-write_label.ensures.failed)

pub returns-in_err-write_label-clause-stopped : goal.returns-in_err-write_label-clause-stopped
returns-in_err-write_label-clause-stopped g c = λ told w fits.
    let e = err_from_is_err_and c.from_residual.result c.from_residual.ensures.1 in
    on_stop stops.Plant _ _ (only_that stops.Plant _ c.from_residual.result _ (e.1 ∙ ap Err e.2) (c.in_err-write_label.ensures.failed))
