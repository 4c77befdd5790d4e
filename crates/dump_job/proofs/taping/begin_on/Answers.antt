use Rattle.std.proofs.Common.{ℕ, [], ◌∷◌, ◌∙◌, subst}
use Rattle.plant_core.specs.Effects.{cuts}
use Rattle.plant_effects.specs.Runs.{Done, Leaves}
use Rattle.plant_effects.proofs.Joining.{leaves_both, leaves_more, done_both}
use Rattle.tape_writer.specs.Puts.{puts_on, begun}
use Rattle.dump_job.proofs.taping.begin_on.Goals as goal

pub returns-in_err-cut_on-clause-leaves : goal.returns-in_err-cut_on-clause-leaves
returns-in_err-cut_on-clause-leaves g c =
    let slot = c.args.reel.now.slot in
    let es = puts_on slot (begun c.args.label.now c.args.head.now) in
    subst (λ (n : ℕ). Leaves g.P.Plant (cuts slot n ∷ es) c.args.plant.now c.cut_on.new.plant) c.count_on-count.ensures
    (leaves_more g.P.Plant (cuts slot c.count_on-count.result ∷ []) es c.args.plant.now c.cut_on.new.plant c.cut_on.ensures.leaves)

pub returns-in-Err-clause-leaves : goal.returns-in-Err-clause-leaves
returns-in-Err-clause-leaves g c =
    let slot = c.args.reel.now.slot in
    let es = puts_on slot (begun c.args.label.now c.args.head.now) in
    let first = c.in_ok-cut_on.ensures in
    subst (λ (n : ℕ). Leaves g.P.Plant (cuts slot n ∷ es) c.args.plant.now c.begin_with.new.plant) c.count_on-count.ensures
    (leaves_both g.P.Plant (cuts slot c.count_on-count.result ∷ []) es c.args.plant.now c.cut_on.new.plant c.begin_with.new.plant first.done first.leaves (c.begin_with.ensures.leaves slot (first.loaded ∙ c.requires.loaded)))

pub returns-clause-leaves : goal.returns-clause-leaves
returns-clause-leaves g c =
    let slot = c.args.reel.now.slot in
    let es = puts_on slot (begun c.args.label.now c.args.head.now) in
    let first = c.in_ok-cut_on.ensures in
    subst (λ (n : ℕ). Leaves g.P.Plant (cuts slot n ∷ es) c.args.plant.now c.begin_with.new.plant) c.count_on-count.ensures
    (leaves_both g.P.Plant (cuts slot c.count_on-count.result ∷ []) es c.args.plant.now c.cut_on.new.plant c.begin_with.new.plant first.done first.leaves (c.begin_with.ensures.leaves slot (first.loaded ∙ c.requires.loaded)))

pub returns-clause-done : goal.returns-clause-done
returns-clause-done g c =
    let slot = c.args.reel.now.slot in
    let es = puts_on slot (begun c.args.label.now c.args.head.now) in
    let first = c.in_ok-cut_on.ensures in
    subst (λ (n : ℕ). Done g.P.Plant (cuts slot n ∷ es) c.args.plant.now c.begin_with.new.plant) c.count_on-count.ensures
    (done_both g.P.Plant (cuts slot c.count_on-count.result ∷ []) es c.args.plant.now c.cut_on.new.plant c.begin_with.new.plant first.done (c.in-Ok.ensures.done slot (first.loaded ∙ c.requires.loaded)))
