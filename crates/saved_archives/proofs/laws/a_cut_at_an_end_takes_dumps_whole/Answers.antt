use Rattle.saved_archives.proofs.CutLaws.{held_in_front_of_end}
use Rattle.saved_archives.proofs.laws.a_cut_at_an_end_takes_dumps_whole.Goals as goal

pub returns : goal.returns
returns c = held_in_front_of_end
