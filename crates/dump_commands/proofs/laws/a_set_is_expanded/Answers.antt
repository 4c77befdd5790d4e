use Rattle.dump_commands.proofs.ExpandingLaws.{expansion_is}
use Rattle.dump_commands.proofs.laws.a_set_is_expanded.Goals as goal

pub returns : goal.returns
returns c = expansion_is
