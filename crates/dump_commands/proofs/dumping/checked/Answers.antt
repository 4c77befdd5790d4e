use Rattle.dump_job.specs.Beginning.{first_tape}
use Rattle.dump_commands.proofs.Checks.{told_none, told_some, search_stopped}
use Rattle.tape_scan.specs.Looking.{Loads}
use Rattle.dump_commands.proofs.dumping.checked.Goals as goal

pub returns-in-Ok-clause-told : goal.returns-in-Ok-clause-told
returns-in-Ok-clause-told g c = λ told slots whole has are.
    told_none (first_tape c.args.budb.now.database slots whole c.args.order.now (g.P.Plant.view c.args.plant.now).log_size) c.in-Ok.field-0 (c.in-Ok.ensures.told told slots whole has are)

pub returns-in-Ok-pass_on-clause-told : goal.returns-in-Ok-pass_on-clause-told
returns-in-Ok-pass_on-clause-told g c = λ told slots whole has are.
    told_some (first_tape c.args.budb.now.database slots whole c.args.order.now (g.P.Plant.view c.args.plant.now).log_size) c.in-Err.fault c.in-Ok-pass_on.refusal c.in-Ok-pass_on.ensures (c.in-Err.ensures.told told slots whole has are)

pub returns-in-Err-pass_on-clause-stopped : goal.returns-in-Err-pass_on-clause-stopped
returns-in-Err-pass_on-clause-stopped g c = search_stopped (Unit {0}) (Loads g.P.Plant c.args.plant.now c.check.new.plant) c.in-Err.fault c.in-Err-pass_on.stop c.in-Err-pass_on.ensures c.in-Err.ensures.plant.loads
