use Rattle.std.proofs.lemmas.Result.{err_from_is_err_and}
use Rattle.dump_job.proofs.Searching.{no_search, no_memory}
use Rattle.dump_job.proofs.first_tapes.tape_by.Goals as goal

pub returns-in_err-name-in-NotFound-clause-plant : goal.returns-in_err-name-in-NotFound-clause-plant
returns-in_err-name-in-NotFound-clause-plant g c =
    let p = err_from_is_err_and c.from_residual.result c.from_residual.ensures.1 in
    no_memory g.P.Plant c.from_residual.result p.0 c.args.plant.now p.1 p.2 c.requires.sound (λ told survives image left. g.met.P.Plant.left c.args.plant.now image told c.requires.sound survives left)

pub returns-in-NoSet-clause-plant : goal.returns-in-NoSet-clause-plant
returns-in-NoSet-clause-plant g c =
    no_search g.P.Plant _ c.args.plant.now (λ is. absurd (cc)) c.requires.sound (λ told survives image left. g.met.P.Plant.left c.args.plant.now image told c.requires.sound survives left)

pub returns-in_ok-name-in-NotFound-clause-plant : goal.returns-in_ok-name-in-NotFound-clause-plant
returns-in_ok-name-in-NotFound-clause-plant g c =
    no_search g.P.Plant _ c.args.plant.now (λ is. absurd (cc)) c.requires.sound (λ told survives image left. g.met.P.Plant.left c.args.plant.now image told c.requires.sound survives left)
