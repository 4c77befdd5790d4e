use Rattle.archive_model.specs.Archives.{listed_of}
use Rattle.archive_model.proofs.AgainLaws.{scanned_again, scanned_equal}
use Rattle.archive_model.proofs.holding.recorded_dumps_are_scanned_again.Goals as goal

pub returns-clause-found : goal.returns-clause-found
returns-clause-found c = λ stock a records held few place at. scanned_again (listed_of a) records a.slots a.contents held.kept few place at

pub returns-clause-equal : goal.returns-clause-equal
returns-clause-equal c = λ stock a records held few place at. scanned_equal (listed_of a) records a.slots a.contents held.kept few place at
