use Rattle.archive_model.proofs.HereLaws.{found_is_here}
use Rattle.archive_model.proofs.holding.a_found_dump_is_here.Goals as goal

pub returns : goal.returns
returns c = found_is_here
