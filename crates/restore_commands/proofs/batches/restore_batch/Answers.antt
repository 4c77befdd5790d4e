use Rattle.std.proofs.Common.{◌++◌, refl, arith}
use Rattle.restore_commands.specs.Answers.{all_answer}
use Rattle.restore_commands.proofs.PutLaws.{stayed_on}
use Rattle.restore_commands.proofs.EachLaws.{none_put}
use Rattle.restore_commands.proofs.Idle.{cell_idle, looks_kept, stop_looks}
use Rattle.restore_commands.proofs.batches.restore_batch.Goals as goal

pub returns-in-Ok-clause-put : goal.returns-in-Ok-clause-put
returns-in-Ok-clause-put g c = λ told seen a is. c.put_each.ensures.put seen a is.lists (c.in-Ok.ensures.found told a is)

pub returns-in-Ok-clause-left : goal.returns-in-Ok-clause-left
returns-in-Ok-clause-left g c = λ told seen a is. c.put_each.ensures.left seen a is.lists (c.in-Ok.ensures.found told a is)

pub returns-in-Ok-clause-none : goal.returns-in-Ok-clause-none
returns-in-Ok-clause-none g c = λ is. absurd (c.put_each.ensures.never is)

pub returns-in-Ok-clause-looks : goal.returns-in-Ok-clause-looks
returns-in-Ok-clause-looks g c = looks_kept g.P.Plant c.args.plant.now c.play_batch.new.plant c.in-Ok.played c.put_each.result c.put_each.ensures.never c.in-Ok.ensures.looks

pub returns-in-Err-clause-left : goal.returns-in-Err-clause-left
returns-in-Err-clause-left g c = λ told seen a is others.
    let old = g.C.Cell.list c.args.cell.now in
    stayed_on old (all_answer a old c.args.manner.now (c.args.batch.now ++ others)).cells old refl

pub returns-in-Err-clause-may : goal.returns-in-Err-clause-may
returns-in-Err-clause-may g c = λ seen. none_put c.args.manner.now c.args.batch.now (g.C.Cell.list c.args.cell.now)

pub returns-in-Err-clause-looks : goal.returns-in-Err-clause-looks
returns-in-Err-clause-looks g c = stop_looks g.P.Plant c.in-Err.stop c.args.plant.now c.play_batch.new.plant c.in-Err.ensures.looks

pub returns-in-Err-clause-cause : goal.returns-in-Err-clause-cause
returns-in-Err-clause-cause g c = cell_idle (g.C.Cell.faults c.args.cell.now) _ (λ is. c.in-Err.ensures.never (cc))
