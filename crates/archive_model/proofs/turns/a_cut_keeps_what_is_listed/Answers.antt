use Rattle.archive_model.proofs.DumpLaws.{cut_holds_all}
use Rattle.archive_model.proofs.turns.a_cut_keeps_what_is_listed.Goals as goal

pub returns : goal.returns
returns c = cut_holds_all
