use Rattle.restore_commands.proofs.MatchLaws.{match_tested}
use Rattle.restore_commands.proofs.choosing.a_match_is_tested.Goals as goal

pub returns : goal.returns
returns c = match_tested
