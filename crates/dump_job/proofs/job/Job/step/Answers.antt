use Rattle.std.proofs.Common.{◌≢◌, sym, subst}
use Rattle.dump_job.specs.declared.fields.JobFields.{JobFields}
use Rattle.dump_job.specs.declared.fields.Phase.TheVariants as phase
use Rattle.dump_job.specs.Events.{event}
use Rattle.dump_job.specs.Jobs.{FitsJob, HasPlaces}
use Rattle.dump_job.specs.Stepping.{Does, Steps}
use Rattle.dump_job.specs.Elsewhere.{LeavesOthers}
use Rattle.dump_job.proofs.job.Job.step.Goals as goal

pub step_fields-requires-clause-going : goal.step_fields-requires-clause-going
step_fields-requires-clause-going g c = subst (λ (x : JobFields). x.phase ≢ phase.Over) (sym c.self.view_is) c.requires.going

pub step_fields-requires-clause-fit : goal.step_fields-requires-clause-fit
step_fields-requires-clause-fit g c = subst (λ (x : JobFields). FitsJob g.P.Plant x c.args.plant.now) (sym c.self.view_is) c.requires.fit

pub step_fields-requires-clause-places : goal.step_fields-requires-clause-places
step_fields-requires-clause-places g c = subst (λ (x : JobFields). HasPlaces g.C.Cell x.places c.args.cell.now) (sym c.self.view_is) c.requires.places

pub returns-clause-does : goal.returns-clause-does
returns-clause-does g c = λ around a.
    subst (λ (x : JobFields). Does g.P.Plant (event around x) c.step_fields.result c.args.budb.now c.step_fields.new.budb c.args.plant.now c.step_fields.new.plant c.step_fields.new.job) c.self.view_is
    (c.step_fields.ensures.does around a)

pub returns-clause-steps : goal.returns-clause-steps
returns-clause-steps g c =
    subst (λ (x : JobFields). Steps g.P.Plant c.step_fields.result c.args.budb.now c.step_fields.new.budb c.args.plant.now c.step_fields.new.plant x c.step_fields.new.job) c.self.view_is c.step_fields.ensures.steps

pub returns-clause-elsewhere : goal.returns-clause-elsewhere
returns-clause-elsewhere g c = λ told slots has unfailed.
    subst (λ (x : JobFields). LeavesOthers g.P.Plant c.args.plant.now c.step_fields.new.plant x c.step_fields.new.job) c.self.view_is
    (c.step_fields.ensures.elsewhere told slots has unfailed)
