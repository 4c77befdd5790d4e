use Rattle.budb_fold.proofs.ChainLaws.{same_chain}
use Rattle.budb_fold.proofs.chain_laws.chain_looks_at_its_dumps.Goals as goal

pub returns : goal.returns
returns c = same_chain
