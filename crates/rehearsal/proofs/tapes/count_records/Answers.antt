use Rattle.std.proofs.Common.{◌≡◌, ℕ, ◌+◌, Bool, sym, ◌∙◌, ap, subst}
use Rattle.plant_core.specs.Crashes.{settled_part}
use Rattle.plant_media.specs.State.{shown_of}
use Rattle.plant_media.specs.Slots.{slots_here}
use Rattle.rehearsal.proofs.Standing.{alike_same, settled_whole}
use Rattle.rehearsal.proofs.tapes.count_records.Goals as goal

pub returns-clause-same : goal.returns-clause-same
returns-clause-same g c = λ told.
    let M = g.M.Media in
    let old = shown_of M.seen c.in-Ok.plant in
    let new = shown_of M.seen c.count_all.new.plant in
    let settled = c.in-Ok.ensures.settled told in
    c.into_media.ensures.stock told c.in-Ok-count_all.ensures.sound ∙ ap settled_part (sym (alike_same old new (c.in-Ok-count_all.ensures.same told settled))) ∙ settled_whole old settled ∙ sym (c.in-Ok.ensures.stock told)

pub returns-clause-present : goal.returns-clause-present
unfolding slots_here
returns-clause-present g c = λ k.
    let M = g.M.Media in
    subst (λ m. M.present m (k + 1) ≡ M.present c.args.media (k + 1)) (sym c.into_media.ensures.media)
    (ap (λ (f : ℕ → Bool). f k) c.count_all.ensures.stays.stays.present ∙ ap (λ (f : ℕ → Bool). f (k + 1)) c.in-Ok.ensures.present)
