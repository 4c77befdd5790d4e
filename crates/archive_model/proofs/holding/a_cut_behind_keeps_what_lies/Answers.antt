use Rattle.archive_model.proofs.KeepLaws.{cut_lies}
use Rattle.archive_model.proofs.holding.a_cut_behind_keeps_what_lies.Goals as goal

pub returns : goal.returns
returns c = cut_lies
