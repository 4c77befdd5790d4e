use Rattle.archive_model.proofs.AlikeLaws.{held_first, held_last}
use Rattle.archive_model.proofs.images.held_archives_begin_and_end.Goals as goal

pub returns-clause-first : goal.returns-clause-first
returns-clause-first c = held_first

pub returns-clause-last : goal.returns-clause-last
returns-clause-last c = held_last
