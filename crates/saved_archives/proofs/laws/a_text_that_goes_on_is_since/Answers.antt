use Rattle.saved_archives.proofs.CutLaws.{on_since}
use Rattle.saved_archives.proofs.laws.a_text_that_goes_on_is_since.Goals as goal

pub returns : goal.returns
returns c = on_since
