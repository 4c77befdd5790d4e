use Rattle.dump_archives.proofs.Contents.{free_contents}
use Rattle.dump_archives.proofs.laws.contents_of_no_dump_are_free.Goals as goal

pub returns : goal.returns
returns c = free_contents
