use Rattle.archive_model.proofs.DumpedLaws.{dumped_gives}
use Rattle.archive_model.proofs.plays.a_dumped_clone_is_given_next.Goals as goal

pub returns : goal.returns
returns c = dumped_gives
