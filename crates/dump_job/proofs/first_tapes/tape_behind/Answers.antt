use Rattle.dump_job.proofs.Searching.{no_search}
use Rattle.dump_job.proofs.first_tapes.tape_behind.Goals as goal

pub returns-then-has_room_behind-clause-plant : goal.returns-then-has_room_behind-clause-plant
returns-then-has_room_behind-clause-plant g c =
    no_search g.P.Plant _ c.args.plant.now (λ is. absurd (cc)) c.requires.sound (λ told survives image left. g.met.P.Plant.left c.args.plant.now image told c.requires.sound survives left)
