use Rattle.cell_core.proofs.IdLaws.{created_id, id_above, id_in_row, id_least, id_fits}
use Rattle.cell_core.proofs.laws.a_new_id_is_the_least_above_all.Goals as goal

pub returns-clause-given : goal.returns-clause-given
returns-clause-given c = created_id

pub returns-clause-above : goal.returns-clause-above
returns-clause-above c = id_above

pub returns-clause-row : goal.returns-clause-row
returns-clause-row c = id_in_row

pub returns-clause-least : goal.returns-clause-least
returns-clause-least c = id_least

pub returns-clause-fits : goal.returns-clause-fits
returns-clause-fits c = id_fits
