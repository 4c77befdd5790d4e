use Rattle.std.proofs.Common.{List}
use Rattle.cell_core.specs.declared.stored.Stored.{Stored}
use Rattle.cell_core.specs.Calls.{after_change}
use Rattle.cell_core.specs.Changing.{outcome_of}
use Rattle.cell_core.proofs.AnswerLaws.{may_answer, never_failed}
use Rattle.cell_core.proofs.answering.change.Goals as goal

pub returns-clause-answer : goal.returns-clause-answer
returns-clause-answer c = may_answer (Unit {0}) (λ (done : Unit {0}) (list : List Stored). list) (after_change c.args.cell.now.items c.args.name.now (outcome_of c.args.change c.args.now)) c.args.cell.now.items c.change_in.result c.change_in.new.cell.items c.change_in.ensures.answer

pub returns-clause-whole : goal.returns-clause-whole
returns-clause-whole c = never_failed ⊥ (λ (done : Unit {0}) (list : List Stored). list) (after_change c.args.cell.now.items c.args.name.now (outcome_of c.args.change c.args.now)) c.args.cell.now.items c.change_in.result c.change_in.new.cell.items c.change_in.ensures.answer
