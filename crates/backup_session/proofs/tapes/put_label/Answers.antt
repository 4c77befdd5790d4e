use Rattle.std.proofs.Common.{ℕ, List, [], ◌∷◌, ◌∙◌, subst}
use Rattle.plant_core.specs.Effects.{puts, settles}
use Rattle.plant_core.specs.Records.{block_with, mark}
use Rattle.plant_effects.specs.Runs.{Done, Leaves}
use Rattle.plant_effects.proofs.Joining.{leaves_both, leaves_more}
use Rattle.tape_frames.specs.declared.frame.Frame.TheVariants.{Label}
use Rattle.tape_frames.specs.Frames.{spelling}
use Rattle.backup_session.proofs.tapes.put_label.Goals as goal

pub returns-in_err-put_block-clause-leaves : goal.returns-in_err-put_block-clause-leaves
returns-in_err-put_block-clause-leaves g c = λ k at.
    let P = g.P.Plant in
    let old = c.args.plant.now in
    let mid = c.put_block.new.plant in
    leaves_more P (puts k (block_with (spelling (Label c.args.label.now))) ∷ []) (puts k mark ∷ settles k ∷ []) old mid
    (subst (λ (b : List ℕ). Leaves P (puts k (block_with b) ∷ []) old mid) c.encode.ensures.block (c.put_block.ensures.leaves k at))

pub returns-in_err-put_mark-clause-leaves : goal.returns-in_err-put_mark-clause-leaves
returns-in_err-put_mark-clause-leaves g c = λ k at.
    let P = g.P.Plant in
    let old = c.args.plant.now in
    let mid = c.put_block.new.plant in
    let e = c.in_ok-put_block.ensures in
    leaves_both P (puts k (block_with (spelling (Label c.args.label.now))) ∷ []) (puts k mark ∷ settles k ∷ []) old mid c.put_mark.new.plant
    (subst (λ (b : List ℕ). Done P (puts k (block_with b) ∷ []) old mid) c.encode.ensures.block (e.done k at))
    (subst (λ (b : List ℕ). Leaves P (puts k (block_with b) ∷ []) old mid) c.encode.ensures.block (c.put_block.ensures.leaves k at))
    (c.put_mark.ensures.leaves k (e.loaded ∙ at))

pub returns-clause-leaves : goal.returns-clause-leaves
returns-clause-leaves g c = λ k at.
    let P = g.P.Plant in
    let old = c.args.plant.now in
    let mid = c.put_block.new.plant in
    let e = c.in_ok-put_block.ensures in
    leaves_both P (puts k (block_with (spelling (Label c.args.label.now))) ∷ []) (puts k mark ∷ settles k ∷ []) old mid c.put_mark.new.plant
    (subst (λ (b : List ℕ). Done P (puts k (block_with b) ∷ []) old mid) c.encode.ensures.block (e.done k at))
    (subst (λ (b : List ℕ). Leaves P (puts k (block_with b) ∷ []) old mid) c.encode.ensures.block (c.put_block.ensures.leaves k at))
    (c.put_mark.ensures.leaves k (e.loaded ∙ at))
