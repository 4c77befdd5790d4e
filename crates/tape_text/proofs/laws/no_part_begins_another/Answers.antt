use Rattle.tape_text.proofs.TextLaws.{parts_apart}
use Rattle.tape_text.proofs.laws.no_part_begins_another.Goals as goal

pub returns : goal.returns
returns c = parts_apart
