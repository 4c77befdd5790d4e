use Rattle.restore_target.specs.Targets.{after_restore}
use Rattle.restore_commands.proofs.PutLaws.{told_answer, left_so, may_so}
use Rattle.restore_commands.proofs.places.place_volume.Goals as goal

pub returns-clause-answer : goal.returns-clause-answer
returns-clause-answer g c = λ seen.
    let C = g.C.Cell in
    let old = C.list c.args.cell.now in
    let new = C.list c.take_volume-answer.new.cell in
    let w = c.args.wanted.now in
    let m = c.args.manner.now in
    told_answer c.args.target.now c.args.lines old new m.is_trial (after_restore old w.server w.partition c.args.target.now m.time c.args.volume) c.take_volume-answer.result c.told_of.result
    c.told_of.ensures.failed c.told_of.ensures.memory c.told_of.ensures.text (c.take_volume-answer.ensures.answer seen)

pub returns-clause-left : goal.returns-clause-left
returns-clause-left g c = λ seen.
    let C = g.C.Cell in
    let old = C.list c.args.cell.now in
    let new = C.list c.take_volume-answer.new.cell in
    let w = c.args.wanted.now in
    let m = c.args.manner.now in
    left_so old new m.is_trial c.args.target.now c.args.lines (after_restore old w.server w.partition c.args.target.now m.time c.args.volume) c.take_volume-answer.result (c.take_volume-answer.ensures.answer seen)

pub returns-clause-may : goal.returns-clause-may
returns-clause-may g c = λ seen.
    let C = g.C.Cell in
    may_so (C.list c.args.cell.now) (C.list c.take_volume-answer.new.cell) c.args.manner.now c.args.wanted.now c.args.volume c.args.target.now c.take_volume-answer.result c.requires (c.take_volume-answer.ensures.answer seen)
