use Rattle.budb_changes.proofs.Logs.{same_changes}
use Rattle.budb_changes.proofs.decoding.one_encoding.Goals as goal

pub returns : goal.returns
returns c = same_changes
