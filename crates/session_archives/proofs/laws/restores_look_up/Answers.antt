use Rattle.session_archives.proofs.OnLines.{restores_look_up}
use Rattle.session_archives.proofs.laws.restores_look_up.Goals as goal

pub returns : goal.returns
returns c = restores_look_up
