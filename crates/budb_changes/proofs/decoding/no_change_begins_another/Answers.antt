use Rattle.budb_changes.proofs.Logs.{no_longer}
use Rattle.budb_changes.proofs.decoding.no_change_begins_another.Goals as goal

pub returns : goal.returns
returns c = no_longer
