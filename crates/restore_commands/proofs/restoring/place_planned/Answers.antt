use Rattle.std.proofs.Common.{inl, refl, ◌∙◌, ap, subst, ℕ, List}
use Rattle.std.specs.Prelude.{IfOk}
use Rattle.restore_target.specs.Targets.{after_restore}
use Rattle.restore_commands.specs.declared.told.Told.{Told}
use Rattle.restore_commands.specs.Answers.{Manner, put_answer}
use Rattle.restore_commands.specs.Leaving.{OnTheWay}
use Rattle.restore_commands.specs.Steps.{planned_lines, IsToldSo}
use Rattle.restore_commands.proofs.PutLaws.{stayed_on}
use Rattle.restore_commands.proofs.Idle.{cell_idle}
use Rattle.restore_commands.proofs.restoring.place_planned.Goals as goal

pub returns-in-Ok-clause-answer : goal.returns-in-Ok-clause-answer
returns-in-Ok-clause-answer g c = λ seen.
    let C = g.C.Cell in
    let old = C.list c.args.cell.now in
    let new = C.list c.place_volume.new.cell in
    let w = c.args.wanted.now in
    let m = c.args.manner.now in
    subst (λ (l : List ℕ). IfOk c.place_volume.result (λ (t : Told). IsToldSo (put_answer m.is_trial c.args.target.now l (after_restore old w.server w.partition c.args.target.now m.time c.args.volume)) t old new))
    (c.in-Ok.ensures ∙ ap (λ (x : Manner). planned_lines x.is_trial c.args.target.now c.args.plan.now) c.manner.view_is)
    (c.place_volume.ensures.answer seen)

pub returns-in-Ok-clause-left : goal.returns-in-Ok-clause-left
returns-in-Ok-clause-left g c = λ seen.
    let C = g.C.Cell in
    let old = C.list c.args.cell.now in
    let new = C.list c.place_volume.new.cell in
    let w = c.args.wanted.now in
    let m = c.args.manner.now in
    subst (λ (l : List ℕ). OnTheWay old (put_answer m.is_trial c.args.target.now l (after_restore old w.server w.partition c.args.target.now m.time c.args.volume)).cells new)
    (c.in-Ok.ensures ∙ ap (λ (x : Manner). planned_lines x.is_trial c.args.target.now c.args.plan.now) c.manner.view_is)
    (c.place_volume.ensures.left seen)

pub returns-in-Err-clause-left : goal.returns-in-Err-clause-left
returns-in-Err-clause-left g c = λ seen.
    let old = g.C.Cell.list c.args.cell.now in
    let w = c.args.wanted.now in
    let m = c.args.manner.now in
    stayed_on old (put_answer m.is_trial c.args.target.now (planned_lines m.is_trial c.args.target.now c.args.plan.now) (after_restore old w.server w.partition c.args.target.now m.time c.args.volume)).cells old refl

pub returns-in-Err-clause-may : goal.returns-in-Err-clause-may
returns-in-Err-clause-may g c = λ seen. inl refl

pub returns-in-Err-clause-cause : goal.returns-in-Err-clause-cause
returns-in-Err-clause-cause g c = cell_idle (g.C.Cell.faults c.args.cell.now) _ (λ is. absurd (cc))
