use Rattle.dump_job.specs.Ending.{part_end_items}
use Rattle.dump_job.proofs.Closings.{closes_memory}
use Rattle.dump_job.proofs.part_ends.close_filled.Goals as goal

pub returns-in-Err-clause-plant : goal.returns-in-Err-clause-plant
returns-in-Err-clause-plant g c =
    closes_memory g.P.Plant c.args.job.now.reel.slot (part_end_items 1 c.args.job.now) c.args.changes.now c.args.plant.now c.requires.fit.sound
    (λ told survives image left. g.met.P.Plant.left c.args.plant.now image told c.requires.fit.sound survives left)
