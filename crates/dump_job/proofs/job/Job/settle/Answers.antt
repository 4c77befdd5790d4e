use Rattle.std.proofs.Common.{sym, subst}
use Rattle.dump_job.specs.declared.fields.JobFields.{JobFields}
use Rattle.dump_job.specs.Jobs.{FitsJob}
use Rattle.dump_job.specs.Settling.{last_cut}
use Rattle.dump_job.proofs.Settlings.{settling_leaves}
use Rattle.dump_job.proofs.Turns.{sound_job, settled_needs}
use Rattle.dump_job.proofs.job.Job.settle.Goals as goal

pub settle_job-requires-clause-sound : goal.settle_job-requires-clause-sound
settle_job-requires-clause-sound g c = sound_job g.P.Plant c.args.self.now c.args.plant.now c.requires

pub settle_job-requires-clause-here : goal.settle_job-requires-clause-here
settle_job-requires-clause-here g c =
    let fit = subst (λ (x : JobFields). FitsJob g.P.Plant x c.args.plant.now) (sym c.self.view_is) c.requires in
    (settled_needs g.P.Plant c.self.inside.fields c.args.plant.now fit).0

pub settle_job-requires-clause-whole : goal.settle_job-requires-clause-whole
settle_job-requires-clause-whole g c =
    let fit = subst (λ (x : JobFields). FitsJob g.P.Plant x c.args.plant.now) (sym c.self.view_is) c.requires in
    (settled_needs g.P.Plant c.self.inside.fields c.args.plant.now fit).1

pub returns-clause-elsewhere : goal.returns-clause-elsewhere
returns-clause-elsewhere g c = λ tells. settling_leaves g.P.Plant (last_cut c.self.inside.fields) c.settle_job.result c.args.plant.now c.settle_job.new.plant c.settle_job.ensures.done tells
