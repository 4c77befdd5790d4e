use Rattle.archive_model.proofs.DumpLaws.{held_then}
use Rattle.archive_model.proofs.images.held_archives_join.Goals as goal

pub returns : goal.returns
returns c = held_then
