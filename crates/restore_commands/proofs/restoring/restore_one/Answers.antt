use Rattle.std.proofs.Common.{inl, refl, ◌∙◌}
use Rattle.restore_target.specs.Targets.{target_text}
use Rattle.restore_commands.specs.Answers.{volume_answer}
use Rattle.restore_commands.proofs.PutLaws.{stayed_on}
use Rattle.restore_commands.proofs.Idle.{cell_idle, plant_idle}
use Rattle.restore_commands.proofs.restoring.restore_one.Goals as goal

pub restore_as-requires-clause-target : goal.restore_as-requires-clause-target
restore_as-requires-clause-target g c =
    c.as_slice.ensures ∙ c.in-Ok.ensures
    ∙ (λ i. target_text c.args.wanted.now.name ((c.manner.view_is i).extension))

pub returns-in-Err-clause-left : goal.returns-in-Err-clause-left
returns-in-Err-clause-left g c = λ told seen a is. stayed_on (g.C.Cell.list c.args.cell.now) (volume_answer a (g.C.Cell.list c.args.cell.now) c.args.manner.now c.args.wanted.now).cells (g.C.Cell.list c.args.cell.now) refl

pub returns-in-Err-clause-may : goal.returns-in-Err-clause-may
returns-in-Err-clause-may g c = λ seen. inl refl

pub returns-in-Err-clause-looks : goal.returns-in-Err-clause-looks
returns-in-Err-clause-looks g c = plant_idle g.P.Plant c.args.plant.now _ c.requires (λ told survives x left. g.met.P.Plant.left c.args.plant.now x told c.requires survives left) (λ is. absurd (cc))

pub returns-in-Err-clause-cause : goal.returns-in-Err-clause-cause
returns-in-Err-clause-cause g c = cell_idle (g.C.Cell.faults c.args.cell.now) _ (λ is. absurd (cc))
