use Rattle.archive_model.proofs.FilledLaws.{filled_gives}
use Rattle.archive_model.proofs.sources.a_filled_dump_gives_its_clones.Goals as goal

pub returns : goal.returns
returns c = filled_gives
