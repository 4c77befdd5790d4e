use Rattle.archive_model.proofs.CountLaws.{found_fits}
use Rattle.archive_model.proofs.holding.what_is_found_fits_a_record.Goals as goal

pub returns-clause-dump : goal.returns-clause-dump
returns-clause-dump c = λ slots parts d few found. (found_fits slots parts d few found).0

pub returns-clause-volumes : goal.returns-clause-volumes
returns-clause-volumes c = λ slots parts d few found. (found_fits slots parts d few found).1
