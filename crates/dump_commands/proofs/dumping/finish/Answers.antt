use Rattle.std.proofs.Common.{◌∙◌, ap}
use Rattle.std.specs.Prelude.{Err}
use Rattle.std.proofs.lemmas.Result.{err_from_is_err_and}
use Rattle.dump_courses.specs.declared.stop.DumpStop.TheVariants as stop
use Rattle.dump_courses.specs.Courses.{course}
use Rattle.dump_courses.proofs.Steps.{fit_sound}
use Rattle.dump_courses.proofs.Stopping.{on_stop, handed, left_whole}
use Rattle.dump_commands.proofs.dumping.finish.Goals as goal

pub returns-clause-finished : goal.returns-clause-finished
returns-clause-finished g c = λ told told_cell s p at. record {
  end = c.in_ok-end.end;
  ended = c.in_ok-end.ensures.ended told told_cell s p at;
  line = c.in_ok-text.ensures;
}

pub returns-in_err-text-clause-unfailed : goal.returns-in_err-text-clause-unfailed
returns-in_err-text-clause-unfailed g c = λ other. fit_sound g.P.Plant c.run_steps.new.job c.run_steps.new.plant c.in_ok-end.ensures.fit

pub returns-in_err-end-clause-stopped : goal.returns-in_err-end-clause-stopped
returns-in_err-end-clause-stopped g c = λ told told_cell s p at.
    let e = err_from_is_err_and c.from_residual.result c.from_residual.ensures.1 in
    on_stop stop.Plant c.from_residual.result _ (handed stop.Plant _ c.from_residual.result _ (e.1 ∙ ap Err e.2) (c.in_err-end.ensures.stopped told told_cell s p at))

pub returns-in_err-text-clause-stopped : goal.returns-in_err-text-clause-stopped
returns-in_err-text-clause-stopped g c = λ told told_cell s p at.
    on_stop stop.Plant c.from_residual-in_err-text.result _ (λ other. left_whole g.P.Plant (course s p).effects c.args.plant.now c.run_steps.new.plant (c.in_ok-end.ensures.ended told told_cell s p at).done)
