use Rattle.budb_fold.proofs.ChainLaws.{record_by_id}
use Rattle.budb_fold.proofs.chain_laws.record_is_found_by_its_id.Goals as goal

pub returns : goal.returns
returns c = record_by_id
