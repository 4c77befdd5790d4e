use Rattle.std.proofs.Common.{rules}
use Rattle.plant_rows.proofs.rows.opened.Goals as goal

pub returns-in-Ok-clause-survives : goal.returns-in-Ok-clause-survives
returns-in-Ok-clause-survives c = λ fresh. c.in-Ok.ensures.survives (search rules) fresh.files
