use Rattle.archive_model.proofs.HeldLaws.{blank_holds}
use Rattle.archive_model.proofs.holding.blank_tapes_hold_no_dump.Goals as goal

pub returns : goal.returns
returns c = blank_holds
