use Rattle.tape_text.proofs.ItemLaws.{reads_as_put}
use Rattle.tape_text.proofs.laws.a_fit_item_is_read.Goals as goal

pub returns : goal.returns
returns c = reads_as_put
