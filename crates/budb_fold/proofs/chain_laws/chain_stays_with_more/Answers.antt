use Rattle.budb_fold.proofs.ChainLaws.{chain_more}
use Rattle.budb_fold.proofs.chain_laws.chain_stays_with_more.Goals as goal

pub returns : goal.returns
returns c = chain_more
