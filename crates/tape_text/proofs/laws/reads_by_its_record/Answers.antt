use Rattle.tape_text.proofs.ItemLaws.{by_its_record}
use Rattle.tape_text.proofs.laws.reads_by_its_record.Goals as goal

pub returns : goal.returns
returns c = by_its_record
