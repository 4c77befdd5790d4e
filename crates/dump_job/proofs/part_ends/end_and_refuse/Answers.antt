use Rattle.std.proofs.Common.{Bool, true, [], subst}
use Rattle.std.specs.Prelude.{Ok}
use Rattle.dump_job.specs.Reels.{Puts}
use Rattle.dump_job.specs.Ending.{part_end_items}
use Rattle.dump_job.proofs.Closings.{closes_alone, closes_memory}
use Rattle.dump_job.proofs.part_ends.end_and_refuse.Goals as goal

pub returns-in-Ok-true-clause-plant : goal.returns-in-Ok-true-clause-plant
returns-in-Ok-true-clause-plant g c =
    let items = part_end_items 1 c.args.job.now in
    let put = subst (λ (b : Bool). Puts g.P.Plant c.args.job.now.reel.slot items (Ok b) c.args.plant.now c.end_part.new.plant) c.in-Ok-true.field-0-test c.in-Ok-true.ensures.plant in
    closes_alone g.P.Plant c.args.job.now.reel.slot items true c.args.plant.now c.end_part.new.plant put

pub returns-in-Err-clause-plant : goal.returns-in-Err-clause-plant
returns-in-Err-clause-plant g c =
    closes_memory g.P.Plant c.args.job.now.reel.slot (part_end_items 1 c.args.job.now) [] c.args.plant.now c.requires.fit.sound
    (λ told survives image left. g.met.P.Plant.left c.args.plant.now image told c.requires.fit.sound survives left)
