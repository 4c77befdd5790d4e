use Rattle.budb_fold.proofs.ChainLaws.{one_outcome}
use Rattle.budb_fold.proofs.chain_laws.chain_has_one_outcome.Goals as goal

pub returns : goal.returns
returns c = one_outcome
