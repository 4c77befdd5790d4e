use Rattle.restore_chain.proofs.RestoreLaws.{restored}
use Rattle.restore_chain.proofs.laws.what_is_planned_and_played_is_looked_up.Goals as goal

pub returns : goal.returns
returns c = restored
