use Rattle.archive_model.proofs.ContentsLaws.{contents_grow}
use Rattle.archive_model.proofs.plays.what_a_dump_gives_next_is_its_contents.Goals as goal

pub returns : goal.returns
returns c = contents_grow
