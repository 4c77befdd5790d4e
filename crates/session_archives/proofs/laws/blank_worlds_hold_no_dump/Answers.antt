use Rattle.session_archives.proofs.Images.{blank_world}
use Rattle.session_archives.proofs.laws.blank_worlds_hold_no_dump.Goals as goal

pub returns : goal.returns
returns c = blank_world
