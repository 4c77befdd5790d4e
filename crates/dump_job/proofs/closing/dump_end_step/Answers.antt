use Rattle.std.proofs.Common.{◌∙◌, ap}
use Rattle.dump_job.specs.declared.fields.JobFields.{JobFields}
use Rattle.dump_job.specs.declared.fields.Phase.TheVariants as phases
use Rattle.dump_job.specs.Ending.{part_end_items}
use Rattle.dump_job.specs.Closing.{done_changes}
use Rattle.dump_job.proofs.Closings.{closes_memory}
use Rattle.dump_job.proofs.closing.dump_end_step.Goals as goal

pub returns-in-Err-clause-plant : goal.returns-in-Err-clause-plant
returns-in-Err-clause-plant g c =
    let P = g.P.Plant in
    closes_memory P c.args.job.now.reel.slot (part_end_items 0 c.args.job.now) (done_changes c.args.job.now) c.args.plant.now c.requires.fit.sound
    (λ told survives image left. g.met.P.Plant.left c.args.plant.now image told c.requires.fit.sound survives left)

pub returns-clause-moved : goal.returns-clause-moved
returns-clause-moved g c = λ ended. c.pass_over.ensures.over ended ∙ ap (λ (j : JobFields). record j { phase = phases.Over }) (c.close-ended.ensures.moved ended)

pub returns-clause-same : goal.returns-clause-same
returns-clause-same g c = λ is. c.pass_over.ensures.same is ∙ c.close-ended.ensures.same is

pub returns-clause-memory : goal.returns-clause-memory
returns-clause-memory g c = λ is. c.pass_over.ensures.memory is ∙ c.close-ended.ensures.memory_job is
