use Rattle.budb_save.proofs.UnusedLaws.{unused_by, unused_only}
use Rattle.budb_save.proofs.laws.an_unused_database_is_told.Goals as goal

pub returns-clause-yes : goal.returns-clause-yes
returns-clause-yes c = unused_by

pub returns-clause-only : goal.returns-clause-only
returns-clause-only c = unused_only
