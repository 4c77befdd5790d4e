use Rattle.session_archives.proofs.ReadyBlank.{blank_ready}
use Rattle.session_archives.proofs.laws.blank_worlds_are_ready.Goals as goal

pub returns : goal.returns
returns c = blank_ready
