use Rattle.tape_choice.proofs.SurveyLaws.{block_uses}
use Rattle.tape_choice.proofs.survey.uses_in.Goals as goal

pub returns-in-Block : goal.returns-in-Block
returns-in-Block c = λ r i shows reads. block_uses c.one_frame.ensures c.uses_of.result c.args.block.now c.uses_of.ensures.head c.uses_of.ensures.other r i c.args.kind shows reads c.in-Block.is
