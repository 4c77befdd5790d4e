use Rattle.tape_choice.specs.Choice.{takes}
use Rattle.dump_job.specs.Ending.{part_end_items}
use Rattle.dump_job.proofs.Closings.{closes_memory}
use Rattle.dump_job.proofs.part_ends.end_and_pass.Goals as goal

pub returns-in-Err-clause-plant : goal.returns-in-Err-clause-plant
returns-in-Err-clause-plant g c =
    let P = g.P.Plant in
    closes_memory P c.args.job.now.reel.slot (part_end_items 1 c.args.job.now) (takes c.args.chosen.take) c.args.plant.now c.requires.fit.sound
    (λ told survives image left. g.met.P.Plant.left c.args.plant.now image told c.requires.fit.sound survives left)
