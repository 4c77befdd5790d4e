use Rattle.std.proofs.lemmas.Result.{err_from_is_err_and}
use Rattle.dump_job.proofs.Searching.{no_memory}
use Rattle.dump_job.proofs.first_tapes.tape_found.Goals as goal

pub returns-then-order-clause-told : goal.returns-then-order-clause-told
returns-then-order-clause-told g c = λ tells slots whole has are. rw c.if-order.true (c.appended_tape.ensures.told tells slots whole has are)

pub returns-in_err-base-clause-plant : goal.returns-in_err-base-clause-plant
returns-in_err-base-clause-plant g c =
    let p = err_from_is_err_and c.from_residual.result c.from_residual.ensures.1 in
    no_memory g.P.Plant c.from_residual.result p.0 c.args.plant.now p.1 p.2 c.requires.sound (λ told survives image left. g.met.P.Plant.left c.args.plant.now image told c.requires.sound survives left)
