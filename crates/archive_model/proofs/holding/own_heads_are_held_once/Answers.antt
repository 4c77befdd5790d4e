use Rattle.archive_model.proofs.OwnLaws.{own_held_once}
use Rattle.archive_model.proofs.holding.own_heads_are_held_once.Goals as goal

pub returns : goal.returns
returns c = own_held_once
