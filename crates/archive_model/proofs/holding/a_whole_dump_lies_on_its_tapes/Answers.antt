use Rattle.archive_model.proofs.WholeLaws.{whole_lies}
use Rattle.archive_model.proofs.holding.a_whole_dump_lies_on_its_tapes.Goals as goal

pub returns : goal.returns
returns c = λ q qs t r items placed whole. whole_lies q qs placed whole t r items
