use Rattle.std.proofs.Common.{List}
use Rattle.cell_core.specs.declared.stored.Stored.{Stored}
use Rattle.cell_core.specs.Calls.{after_remove}
use Rattle.cell_core.proofs.AnswerLaws.{may_answer, never_failed}
use Rattle.cell_core.proofs.answering.remove.Goals as goal

pub returns-clause-answer : goal.returns-clause-answer
returns-clause-answer c = may_answer (Unit {0}) (λ (done : Unit {0}) (list : List Stored). list) (after_remove c.args.cell.now.items c.args.name.now) c.args.cell.now.items c.remove_in.result c.remove_in.new.cell.items c.remove_in.ensures.answer

pub returns-clause-whole : goal.returns-clause-whole
returns-clause-whole c = never_failed ⊥ (λ (done : Unit {0}) (list : List Stored). list) (after_remove c.args.cell.now.items c.args.name.now) c.args.cell.now.items c.remove_in.result c.remove_in.new.cell.items c.remove_in.ensures.answer
