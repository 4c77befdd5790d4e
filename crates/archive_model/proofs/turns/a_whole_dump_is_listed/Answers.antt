use Rattle.archive_model.proofs.StepLaws.{listing_commit}
use Rattle.archive_model.proofs.turns.a_whole_dump_is_listed.Goals as goal

pub returns : goal.returns
returns c = listing_commit
