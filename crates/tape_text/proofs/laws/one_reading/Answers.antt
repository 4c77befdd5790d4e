use Rattle.tape_text.proofs.ItemLaws.{same_items}
use Rattle.tape_text.proofs.laws.one_reading.Goals as goal

pub returns : goal.returns
returns c = same_items c.one_frame.ensures
