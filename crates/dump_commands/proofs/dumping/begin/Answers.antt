use Rattle.dump_job.specs.Beginning.{first_tape}
use Rattle.dump_job.specs.declared.fields.JobFields.{JobFields}
use Rattle.dump_commands.proofs.Checks.{told_not, search_stopped, begin_refused}
use Rattle.tape_scan.specs.Looking.{Loads}
use Rattle.dump_commands.proofs.dumping.begin.Goals as goal

pub returns-in-Ok-pass_on-clause-never : goal.returns-in-Ok-pass_on-clause-never
returns-in-Ok-pass_on-clause-never g c = λ told slots whole t has are found.
    absurd (told_not (first_tape c.args.budb.now.database slots whole c.args.order (g.P.Plant.view c.args.plant.now).log_size) t c.in-Err.fault c.in-Ok-pass_on.refusal found c.in-Ok-pass_on.ensures (c.in-Err.ensures.refused told slots whole has are))

pub returns-in-Err-pass_on-clause-stopped : goal.returns-in-Err-pass_on-clause-stopped
returns-in-Err-pass_on-clause-stopped g c = search_stopped JobFields (Loads g.P.Plant c.args.plant.now c.begin.new.plant) c.in-Err.fault c.in-Err-pass_on.stop c.in-Err-pass_on.ensures c.in-Err.ensures.loads

pub returns-in-Ok-pass_on-clause-refused : goal.returns-in-Ok-pass_on-clause-refused
returns-in-Ok-pass_on-clause-refused g c = begin_refused JobFields (Loads g.P.Plant c.args.plant.now c.begin.new.plant) c.in-Err.fault c.in-Ok-pass_on.refusal c.in-Ok-pass_on.ensures c.in-Err.ensures.loads
