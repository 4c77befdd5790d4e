use Rattle.dump_job.specs.Beginning.{id_of}
use Rattle.dump_job.proofs.Turns.{begun_fits}
use Rattle.dump_job.proofs.job.Job.begin.Goals as goal

pub returns-in-Ok-clause-fit : goal.returns-in-Ok-clause-fit
returns-in-Ok-clause-fit g c =
    let e = c.in-Ok.ensures in
    let db = c.args.budb.now.database in
    begun_fits g.P.Plant c.args.order db.listed (id_of c.args.order db) e.begun.tape c.in-Ok.fields c.begin_job.new.plant e.begun.is c.requires.some c.requires.few e.fresh e.ready
