use Rattle.std.proofs.Common.{◌≡◌, ℕ, ◌+◌, ◌-◌, ◌*◌, ◌++◌, ◌∷◌, [], refl, sym, ◌∙◌, ap, arith}
use Rattle.std.specs.List.{flat_map}
use Rattle.rehearsal.specs.Names.{volumes}
use Rattle.rehearsal.specs.Commands.{adding, creating, writing, making}
use Rattle.rehearsal.proofs.Counting.{flat_more}
use Rattle.rehearsal.proofs.commands.making.Goals as goal

pub loop-volume-preserved : goal.loop-volume-preserved
loop-volume-preserved c =
    let v = c.loop-volume.volume in
    let next : v - 1 + 1 ≡ v = omega (arith, c.loop-volume.auto.volume) in
    let last : v + 1 - 1 ≡ v = omega arith in
    let one = c.in_ok-push.ensures.ok ∙ (λ i. c.loop-volume.invariant i ++ c.in_ok-creating.ensures i ∷ []) in
    let two = c.in_ok-push-2.ensures.ok ∙ (λ i. one i ++ c.in_ok-writing.ensures i ∷ []) in
    two ∙ flat_more making adding (v - 1) v (creating v) (writing v (1000 * v)) next refl ∙ ap (λ (n : ℕ). adding ++ flat_map making (volumes n)) (sym last)
