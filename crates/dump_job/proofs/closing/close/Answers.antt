use Rattle.std.proofs.Common.{◌≡◌, true, List, length, sym, ◌∙◌, subst}
use Rattle.std.specs.Prelude.{◌==◌}
use Rattle.budb_changes.specs.declared.change.Change.{Change}
use Rattle.dump_job.specs.Ending.{part_end_items}
use Rattle.dump_job.specs.Closing.{Makes}
use Rattle.dump_job.proofs.Closings.{none_of, closes_memory, makes_none}
use Rattle.dump_job.proofs.closing.close.Goals as goal

pub returns-then-is_empty-clause-database : goal.returns-then-is_empty-clause-database
returns-then-is_empty-clause-database g c =
    let P = g.P.Plant in
    let test : (length c.args.changes.now == 0) ≡ true = sym c.is_empty.ensures ∙ c.if-is_empty.true in
    let none = none_of c.args.changes.now test in
    subst (λ (cs : List Change). Makes P cs c.end_alone.result c.args.budb.now c.args.budb.now c.args.plant.now c.end_alone.new.plant) (sym none)
    (makes_none P c.args.job.now.reel.slot (part_end_items c.args.more c.args.job.now) c.end_alone.result c.args.budb.now c.args.plant.now c.end_alone.new.plant c.end_alone.ensures.plant c.requires.nothing)

pub returns-in-Err-clause-plant : goal.returns-in-Err-clause-plant
returns-in-Err-clause-plant g c =
    let P = g.P.Plant in
    closes_memory P c.args.job.now.reel.slot (part_end_items c.args.more c.args.job.now) c.args.changes.now c.args.plant.now c.requires.fit.sound
    (λ told survives image left. g.met.P.Plant.left c.args.plant.now image told c.requires.fit.sound survives left)
