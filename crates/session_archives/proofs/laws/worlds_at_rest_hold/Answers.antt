use Rattle.session_archives.proofs.Images.{world_at_rest}
use Rattle.session_archives.proofs.laws.worlds_at_rest_hold.Goals as goal

pub returns : goal.returns
returns c = world_at_rest
