use Rattle.tape_scan.proofs.AnswerLaws.{whole_once, left_once}
use Rattle.tape_scan.proofs.laws.one_answer.Goals as goal

pub returns-clause-whole : goal.returns-clause-whole
returns-clause-whole c = whole_once

pub returns-clause-left : goal.returns-clause-left
returns-clause-left c = left_once
