use Rattle.saved_archives.proofs.CutLaws.{cut_all_since, end_all_since, anew_since}
use Rattle.saved_archives.proofs.laws.a_cut_tape_is_since.Goals as goal

pub returns-clause-end : goal.returns-clause-end
returns-clause-end c = end_all_since

pub returns-clause-text : goal.returns-clause-text
returns-clause-text c = cut_all_since

pub returns-clause-anew : goal.returns-clause-anew
returns-clause-anew c = anew_since
