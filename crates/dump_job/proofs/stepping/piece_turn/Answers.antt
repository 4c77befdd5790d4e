use Rattle.std.proofs.Common.{true, false, ◌∙◌, sym}
use Rattle.dump_job.proofs.Turns.{piece_by_room}
use Rattle.dump_job.proofs.stepping.piece_turn.Goals as goal

pub returns-then-has_room-clause-does : goal.returns-then-has_room-clause-does
returns-then-has_room-clause-does g c = λ around budb near.
    piece_by_room g.P.Plant true c.args.job.now _ budb c.args.plant.now _ _ (sym c.has_room.ensures.is ∙ c.if-has_room.true) (c.piece_put_turn.ensures.does around budb near)

pub returns-else-has_room-clause-does : goal.returns-else-has_room-clause-does
returns-else-has_room-clause-does g c = λ around budb near.
    piece_by_room g.P.Plant false c.args.job.now _ budb c.args.plant.now _ _ (sym c.has_room.ensures.is ∙ c.if-has_room.false) (c.cut_turn.ensures.does around budb near)
