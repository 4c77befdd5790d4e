use Rattle.std.proofs.Common.{◌∙◌, sym, subst, ap}
use Rattle.std.specs.Prelude.{not}
use Rattle.dump_job.specs.declared.fields.Phase.{Phase}
use Rattle.dump_job.specs.Stepping.{TakesMemory}
use Rattle.dump_job.proofs.Turns.{head_due, head_with_room, head_without_room}
use Rattle.dump_job.proofs.stepping.head_turn.Goals as goal

pub returns-then-has_room-clause-does : goal.returns-then-has_room-clause-does
returns-then-has_room-clause-does g c = λ around near.
    head_with_room g.P.Plant around c.args.job.now _ c.args.budb.now c.args.budb.now c.args.plant.now _ _ (sym c.has_room.ensures.is ∙ c.if-has_room.true) (c.head_put_turn.ensures.does around c.args.budb.now near)

pub part_end_turn-requires : goal.part_end_turn-requires
part_end_turn-requires g c =
    let j = c.args.job.now in
    record {
      at = head_due j c.requires.at c.requires.fit.job;
      taking = subst (λ (p : Phase). TakesMemory p j) (sym c.requires.at) (ap not (sym c.has_room.ensures.is ∙ c.if-has_room.false));
      fit = c.requires.fit;
      nothing = c.requires.nothing;
    }

pub returns-else-has_room-clause-does : goal.returns-else-has_room-clause-does
returns-else-has_room-clause-does g c = λ around near.
    head_without_room g.P.Plant around c.args.job.now _ c.args.budb.now c.part_end_turn.new.budb c.args.plant.now _ _ (head_due c.args.job.now c.requires.at c.requires.fit.job).hand
    (sym c.has_room.ensures.is ∙ c.if-has_room.false) (c.part_end_turn.ensures.does around near)

pub returns-then-has_room-clause-steps : goal.returns-then-has_room-clause-steps
returns-then-has_room-clause-steps g c = c.head_put_turn.ensures.steps c.args.budb.now c.requires.nothing
