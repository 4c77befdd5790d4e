use Rattle.dump_courses.specs.declared.stop.DumpStop.TheVariants as stop
use Rattle.dump_courses.proofs.Stopping.{on_stop, left_whole}
use Rattle.dump_commands.specs.Starts.{dump_start, start_effects}
use Rattle.group_commands.specs.Begins.{scene_at}
use Rattle.group_commands.proofs.Adding.{pool_more}
use Rattle.group_commands.proofs.beginning.begin_next.Goals as goal

pub returns-in_err-push-clause-stopped : goal.returns-in_err-push-clause-stopped
returns-in_err-push-clause-stopped g c = λ told told_cell s p finds.
    on_stop stop.Plant c.from_residual-in_err-push.result _ (λ other. left_whole g.P.Plant (start_effects (scene_at s p) (dump_start (scene_at s p) c.args.command.now)) c.args.plant.now c.begin_one.new.plant (c.in_ok-one.ensures.begun told told_cell s p finds).done)

pub returns-clause-within : goal.returns-clause-within
returns-clause-within g c =
    pool_more c.args.begun.now.began c.push.new.self c.in_ok-one.one c.args.begun.now.pool.jobs c.begin_one.new.pool.jobs c.requires.within c.begin_one.ensures.more c.in_ok-one.ensures.within c.in_ok-push.ensures.ok
