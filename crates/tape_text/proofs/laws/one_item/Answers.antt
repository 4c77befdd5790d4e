use Rattle.tape_text.proofs.ItemLaws.{same_item}
use Rattle.tape_text.proofs.laws.one_item.Goals as goal

pub returns : goal.returns
returns c = same_item c.one_frame.ensures
