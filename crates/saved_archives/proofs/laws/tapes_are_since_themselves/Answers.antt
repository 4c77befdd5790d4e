use Rattle.saved_archives.proofs.SinceLaws.{all_same}
use Rattle.saved_archives.proofs.laws.tapes_are_since_themselves.Goals as goal

pub returns : goal.returns
returns c = all_same
