use Rattle.dump_job.specs.Ending.{part_end_items}
use Rattle.dump_job.proofs.Closings.{closes_alone}
use Rattle.dump_job.proofs.closing.end_alone.Goals as goal

pub returns-in-Ok-clause-plant : goal.returns-in-Ok-clause-plant
returns-in-Ok-clause-plant g c =
    closes_alone g.P.Plant c.args.job.now.reel.slot (part_end_items c.args.more c.args.job.now) c.in-Ok.there c.args.plant.now c.end_part.new.plant c.in-Ok.ensures.plant
