use Rattle.tape_text.proofs.TextLaws.{front_is_text}
use Rattle.tape_text.proofs.laws.a_front_of_a_text_is_one.Goals as goal

pub returns : goal.returns
returns c = front_is_text
