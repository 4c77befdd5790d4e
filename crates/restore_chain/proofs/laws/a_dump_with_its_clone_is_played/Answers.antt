use Rattle.restore_chain.proofs.RestoreLaws.{clone_played}
use Rattle.restore_chain.proofs.laws.a_dump_with_its_clone_is_played.Goals as goal

pub returns : goal.returns
returns c = clone_played
