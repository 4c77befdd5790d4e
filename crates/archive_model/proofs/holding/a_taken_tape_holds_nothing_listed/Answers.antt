use Rattle.archive_model.proofs.HoldLaws.{taken_holds_none}
use Rattle.archive_model.proofs.holding.a_taken_tape_holds_nothing_listed.Goals as goal

pub returns : goal.returns
returns c = taken_holds_none
