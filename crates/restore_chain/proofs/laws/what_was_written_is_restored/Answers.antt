use Rattle.restore_chain.proofs.RestoreLaws.{written_restored}
use Rattle.restore_chain.proofs.laws.what_was_written_is_restored.Goals as goal

pub returns : goal.returns
returns c = written_restored
