use Rattle.std.proofs.Common.{inl, refl, ◌∙◌}
use Rattle.restore_target.specs.Targets.{target_text}
use Rattle.restore_commands.specs.Answers.{volume_answer}
use Rattle.restore_commands.proofs.PutLaws.{stayed_on}
use Rattle.restore_commands.proofs.Idle.{cell_idle}
use Rattle.restore_commands.proofs.played.put_one.Goals as goal

pub put_as-requires-clause-target : goal.put_as-requires-clause-target
put_as-requires-clause-target g c =
    c.as_slice.ensures ∙ c.in-Ok.ensures
    ∙ (λ i. target_text c.args.wanted.now.name ((c.manner.view_is i).extension))

pub returns-in-Err-clause-left : goal.returns-in-Err-clause-left
returns-in-Err-clause-left g c = λ seen a lists found. stayed_on (g.C.Cell.list c.args.cell.now) (volume_answer a (g.C.Cell.list c.args.cell.now) c.args.manner.now c.args.wanted.now).cells (g.C.Cell.list c.args.cell.now) refl

pub returns-in-Err-clause-may : goal.returns-in-Err-clause-may
returns-in-Err-clause-may g c = λ seen. inl refl

pub returns-in-Err-clause-cause : goal.returns-in-Err-clause-cause
returns-in-Err-clause-cause g c = cell_idle (g.C.Cell.faults c.args.cell.now) _ (λ is. absurd (cc))
