use Rattle.budb_fold.specs.Database.{after}
use Rattle.archive_model.proofs.ListedLaws.{ids_once}
use Rattle.archive_model.proofs.OwnLaws.{said_of_listed}
use Rattle.archive_model.proofs.holding.holds_is_said_of_listed_dumps.Goals as goal

pub returns : goal.returns
returns c = λ log records slots contents. said_of_listed (after log).listed records slots contents (ids_once log)
