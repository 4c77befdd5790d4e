use Rattle.std.proofs.Common.{◌∙◌, ap}
use Rattle.std.specs.Prelude.{Err}
use Rattle.std.proofs.lemmas.Result.{err_from_is_err_and}
use Rattle.dump_courses.specs.declared.stop.DumpStop.TheVariants as stop
use Rattle.dump_courses.proofs.Stopping.{on_stop, handed}
use Rattle.dump_commands.proofs.made.run.Goals as goal

pub returns-in_err-text-clause-stopped : goal.returns-in_err-text-clause-stopped
returns-in_err-text-clause-stopped g c = λ told told_cell s p at.
    let e = err_from_is_err_and c.from_residual.result c.from_residual.ensures.1 in
    on_stop stop.Plant c.from_residual.result _ (handed stop.Plant _ c.from_residual.result _ (e.1 ∙ ap Err e.2) (c.in_err-text.ensures.stopped told told_cell s p at))
