use Rattle.plant_media.proofs.Showing.{shows_first}
use Rattle.plant_media.proofs.tape.Tape.first.Goals as goal

pub returns-in-Ok-clause-first : goal.returns-in-Ok-clause-first
returns-in-Ok-clause-first g c = λ told. shows_first _ _ _ (c.in-Ok.ensures.found told)
