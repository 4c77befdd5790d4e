use Rattle.std.proofs.Common.{inl, refl, sym, ◌∙◌, ap, subst, false, List}
use Rattle.std.specs.Prelude.{IfOk}
use Rattle.budb_changes.specs.declared.records.DumpRecordFields.{DumpRecordFields}
use Rattle.budb_fold.specs.Lookups.{latest}
use Rattle.budb_fold.specs.Chains.{HaveParentsBelow}
use Rattle.restore_commands.specs.declared.told.Told.{Told}
use Rattle.restore_commands.specs.Answers.{VolumeAnswer, lines_of, volume_answer}
use Rattle.restore_commands.specs.Leaving.{OnTheWay}
use Rattle.restore_commands.specs.Steps.{IsToldSo}
use Rattle.restore_commands.proofs.PutLaws.{stayed_on}
use Rattle.restore_commands.proofs.FoundLaws.{below}
use Rattle.restore_commands.proofs.BatchLaws.{played_answer}
use Rattle.restore_commands.proofs.Idle.{cell_idle}
use Rattle.restore_commands.proofs.played.place_played.Goals as goal

pub returns-in-Ok-clause-answer : goal.returns-in-Ok-clause-answer
returns-in-Ok-clause-answer g c = λ seen a lists found.
    let C = g.C.Cell in
    let old = C.list c.args.cell.now in
    let new = C.list c.place_volume.new.cell in
    let w = c.args.wanted.now in
    let target = c.args.target.now in
    let low = subst HaveParentsBelow lists (below a) in
    let told = c.in-Ok.ensures low ∙ ap (λ (l : List DumpRecordFields). lines_of false target l (latest l w.name w.before)) (sym lists) in
    subst (λ (v : VolumeAnswer). IfOk c.place_volume.result (λ (t : Told). IsToldSo v t old new)) (sym (played_answer a old c.args.manner.now w target c.in-Ok.lines c.requires.target c.requires.real c.args.volume found told))
    (c.place_volume.ensures.answer seen)

pub returns-in-Ok-clause-left : goal.returns-in-Ok-clause-left
returns-in-Ok-clause-left g c = λ seen a lists found.
    let C = g.C.Cell in
    let old = C.list c.args.cell.now in
    let new = C.list c.place_volume.new.cell in
    let w = c.args.wanted.now in
    let target = c.args.target.now in
    let low = subst HaveParentsBelow lists (below a) in
    let told = c.in-Ok.ensures low ∙ ap (λ (l : List DumpRecordFields). lines_of false target l (latest l w.name w.before)) (sym lists) in
    subst (λ (v : VolumeAnswer). OnTheWay old v.cells new) (sym (played_answer a old c.args.manner.now w target c.in-Ok.lines c.requires.target c.requires.real c.args.volume found told))
    (c.place_volume.ensures.left seen)

pub returns-in-Err-clause-left : goal.returns-in-Err-clause-left
returns-in-Err-clause-left g c = λ seen a lists found. stayed_on (g.C.Cell.list c.args.cell.now) (volume_answer a (g.C.Cell.list c.args.cell.now) c.args.manner.now c.args.wanted.now).cells (g.C.Cell.list c.args.cell.now) refl

pub returns-in-Err-clause-may : goal.returns-in-Err-clause-may
returns-in-Err-clause-may g c = λ seen. inl refl

pub returns-in-Err-clause-cause : goal.returns-in-Err-clause-cause
returns-in-Err-clause-cause g c = cell_idle (g.C.Cell.faults c.args.cell.now) _ (λ is. absurd (cc))
