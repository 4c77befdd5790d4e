use Rattle.std.proofs.Common.{[], ◌∷◌, ◌∙◌}
use Rattle.plant_core.specs.Effects.{puts, settles, cuts}
use Rattle.plant_core.specs.Records.{block_with, mark}
use Rattle.plant_effects.proofs.Joining.{leaves_both, leaves_more}
use Rattle.tape_frames.specs.declared.frame.Frame.TheVariants.{Label}
use Rattle.tape_frames.specs.Frames.{spelling}
use Rattle.backup_session.proofs.tapes.cut_and_put.Goals as goal

pub returns-in_err-cut_to-clause-leaves : goal.returns-in_err-cut_to-clause-leaves
returns-in_err-cut_to-clause-leaves g c = λ k at.
    leaves_more g.P.Plant (cuts k 0 ∷ []) (puts k (block_with (spelling (Label c.args.label.now))) ∷ (puts k mark ∷ settles k ∷ [])) c.args.plant.now c.cut_to.new.plant (c.cut_to.ensures.leaves k at)

pub returns-clause-leaves : goal.returns-clause-leaves
returns-clause-leaves g c = λ k at.
    let e = c.in_ok-cut_to.ensures in
    leaves_both g.P.Plant (cuts k 0 ∷ []) (puts k (block_with (spelling (Label c.args.label.now))) ∷ (puts k mark ∷ settles k ∷ [])) c.args.plant.now c.cut_to.new.plant c.put_label.new.plant (e.done k at) (c.cut_to.ensures.leaves k at) (c.put_label.ensures.leaves k (e.loaded ∙ at))
