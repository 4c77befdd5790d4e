use Rattle.std.proofs.Common.{Bool, sym, ◌∙◌, ap, subst}
use Rattle.cell_core.specs.Answers.{Changes}
use Rattle.restore_target.specs.Targets.{after_restore}
use Rattle.restore_commands.specs.Answers.{Manner}
use Rattle.restore_commands.specs.Steps.{tried}
use Rattle.restore_commands.proofs.places.take_volume.Goals as goal

pub returns-then-manner-clause-answer : goal.returns-then-manner-clause-answer
returns-then-manner-clause-answer g c = λ seen.
    let C = g.C.Cell in
    let old = C.list c.args.cell.now in
    let w = c.args.wanted.now in
    subst (λ (b : Bool). Changes (tried b old (after_restore old w.server w.partition c.args.target.now c.args.manner.now.time c.args.volume)) old c.try_volume.result (C.list c.try_volume.new.cell))
    (sym c.if-manner.true ∙ ap (λ (m : Manner). m.is_trial) c.manner.view_is)
    (c.try_volume.ensures.answer seen w.server w.partition c.args.manner.now.time c.args.volume)

pub returns-else-manner-clause-answer : goal.returns-else-manner-clause-answer
returns-else-manner-clause-answer g c = λ seen.
    let C = g.C.Cell in
    let old = C.list c.args.cell.now in
    let new = C.list c.put_restored.new.cell in
    let w = c.args.wanted.now in
    subst (λ (b : Bool). Changes (tried b old (after_restore old w.server w.partition c.args.target.now c.args.manner.now.time c.args.volume)) old c.put_restored.result new)
    (sym c.if-manner.false ∙ ap (λ (m : Manner). m.is_trial) c.manner.view_is)
    (subst (λ (m : Manner). Changes (after_restore old w.server w.partition c.args.target.now m.time c.args.volume) old c.put_restored.result new) c.manner.view_is (c.put_restored.ensures.answer seen))
