use Rattle.archive_model.proofs.StillLaws.{clone_gives}
use Rattle.archive_model.proofs.plays.a_dump_gives_its_clone_next.Goals as goal

pub returns : goal.returns
returns c = clone_gives
