use Rattle.tape_text.proofs.ItemLaws.{read_append}
use Rattle.tape_text.proofs.laws.records_joined.Goals as goal

pub returns : goal.returns
returns c = read_append
