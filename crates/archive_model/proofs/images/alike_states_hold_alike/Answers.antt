use Rattle.archive_model.proofs.AlikeLaws.{alike_hold}
use Rattle.archive_model.proofs.images.alike_states_hold_alike.Goals as goal

pub returns : goal.returns
returns c = alike_hold
