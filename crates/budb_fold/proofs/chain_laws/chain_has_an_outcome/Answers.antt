use Rattle.budb_fold.proofs.ChainLaws.{chain_there}
use Rattle.budb_fold.proofs.chain_laws.chain_has_an_outcome.Goals as goal

pub returns : goal.returns
returns c = chain_there
