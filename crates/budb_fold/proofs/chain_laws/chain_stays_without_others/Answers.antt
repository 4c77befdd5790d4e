use Rattle.budb_fold.proofs.ChainLaws.{chain_fewer}
use Rattle.budb_fold.proofs.chain_laws.chain_stays_without_others.Goals as goal

pub returns : goal.returns
returns c = chain_fewer
