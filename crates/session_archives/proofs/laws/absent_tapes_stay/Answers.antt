use Rattle.session_archives.proofs.ScriptPresent.{absent_tapes_stay}
use Rattle.session_archives.proofs.laws.absent_tapes_stay.Goals as goal

pub returns : goal.returns
returns c = absent_tapes_stay
