use Rattle.std.proofs.Common.{Bool, subst}
use Rattle.std.specs.Prelude.{Ok}
use Rattle.budb.specs.Views.{prepared_of}
use Rattle.dump_job.specs.Reels.{Puts}
use Rattle.dump_job.specs.Ending.{part_end_items}
use Rattle.dump_job.proofs.Closings.{closes_then, closes_failed, makes_then}
use Rattle.dump_job.proofs.closing.end_and_commit.Goals as goal

pub returns-in-Ok-true-clause-plant : goal.returns-in-Ok-true-clause-plant
returns-in-Ok-true-clause-plant g c =
    let items = part_end_items c.args.more c.args.job.now in
    let put = subst (λ (b : Bool). Puts g.P.Plant c.args.job.now.reel.slot items (Ok b) c.args.plant.now c.end_part.new.plant) c.in-Ok-true.field-0-test c.in-Ok-true.ensures.plant in
    closes_then g.P.Plant c.args.job.now.reel.slot items (prepared_of c.args.budb.now) c.commit_rest.result
    c.args.plant.now c.end_part.new.plant c.commit_rest.new.plant put c.commit_rest.ensures.plant

pub returns-in-Ok-true-clause-database : goal.returns-in-Ok-true-clause-database
returns-in-Ok-true-clause-database g c =
    let items = part_end_items c.args.more c.args.job.now in
    let put = subst (λ (b : Bool). Puts g.P.Plant c.args.job.now.reel.slot items (Ok b) c.args.plant.now c.end_part.new.plant) c.in-Ok-true.field-0-test c.in-Ok-true.ensures.plant in
    makes_then g.P.Plant c.args.job.now.reel.slot items (prepared_of c.args.budb.now) c.commit_rest.result
    c.args.budb.now c.commit_rest.new.budb c.args.plant.now c.end_part.new.plant c.commit_rest.new.plant put c.commit_rest.ensures.database

pub returns-in-Err-clause-plant : goal.returns-in-Err-clause-plant
returns-in-Err-clause-plant g c =
    closes_failed g.P.Plant c.args.job.now.reel.slot (part_end_items c.args.more c.args.job.now) (prepared_of c.args.budb.now) c.in-Err.field-0
    c.args.plant.now c.end_part.new.plant c.in-Err.ensures.plant
