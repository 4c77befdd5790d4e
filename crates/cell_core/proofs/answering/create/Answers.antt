use Rattle.std.proofs.Common.{ℕ, List}
use Rattle.cell_core.specs.declared.stored.Stored.{Stored}
use Rattle.cell_core.specs.Calls.{after_create}
use Rattle.cell_core.proofs.AnswerLaws.{may_answer, never_failed}
use Rattle.cell_core.proofs.answering.create.Goals as goal

pub returns-clause-answer : goal.returns-clause-answer
returns-clause-answer c = may_answer (Unit {0}) (λ (id : ℕ) (list : List Stored). record { id = id; list = list }) (after_create c.args.cell.now.items c.args.server.now c.args.partition.now c.args.name.now c.args.now) c.args.cell.now.items c.create_in.result c.create_in.new.cell.items c.create_in.ensures.answer

pub returns-clause-whole : goal.returns-clause-whole
returns-clause-whole c = never_failed ⊥ (λ (id : ℕ) (list : List Stored). record { id = id; list = list }) (after_create c.args.cell.now.items c.args.server.now c.args.partition.now c.args.name.now c.args.now) c.args.cell.now.items c.create_in.result c.create_in.new.cell.items c.create_in.ensures.answer
