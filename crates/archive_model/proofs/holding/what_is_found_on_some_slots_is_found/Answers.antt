use Rattle.archive_model.proofs.AgainLaws.{found_also}
use Rattle.archive_model.proofs.holding.what_is_found_on_some_slots_is_found.Goals as goal

pub returns : goal.returns
returns c = found_also
