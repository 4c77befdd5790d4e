use Rattle.restore_target.specs.Targets.{target_id}
use Rattle.restore_commands.proofs.PutLaws.{tried_ok, tried_err}
use Rattle.restore_commands.proofs.places.try_volume.Goals as goal

pub returns-in-Ok-clause-answer : goal.returns-in-Ok-clause-answer
returns-in-Ok-clause-answer g c = λ seen server partition now volume.
    let C = g.C.Cell in
    let old = C.list c.args.cell.now in
    tried_ok old (C.list c.target_id.new.cell) server partition c.args.target.now now volume (target_id old c.args.target.now) _ (c.in-Ok.ensures.id seen) (c.in-Ok.ensures.list seen)

pub returns-in-Err-clause-answer : goal.returns-in-Err-clause-answer
returns-in-Err-clause-answer g c = λ seen server partition now volume.
    let C = g.C.Cell in
    let old = C.list c.args.cell.now in
    tried_err old (C.list c.target_id.new.cell) server partition c.args.target.now now volume (target_id old c.args.target.now) c.in-Err.fault (c.in-Err.ensures.id seen)
