use Rattle.archive_model.proofs.HeldLaws.{held_is_clone}
use Rattle.archive_model.proofs.plays.what_is_held_is_the_clone.Goals as goal

pub returns : goal.returns
returns c = held_is_clone
