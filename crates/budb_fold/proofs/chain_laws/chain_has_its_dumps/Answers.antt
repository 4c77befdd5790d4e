use Rattle.budb_fold.proofs.ChainLaws.{chain_dumped}
use Rattle.budb_fold.proofs.chain_laws.chain_has_its_dumps.Goals as goal

pub returns : goal.returns
returns c = chain_dumped
