use Rattle.std.proofs.Common.{◌≡◌, ℕ, ◌+◌, ◌-◌, ◌++◌, ◌∷◌, [], map, sym, ◌∙◌, ap, arith}
use Rattle.rehearsal.specs.Names.{volumes}
use Rattle.rehearsal.specs.Commands.{restoring, scanning}
use Rattle.rehearsal.proofs.Counting.{mapped_more}
use Rattle.rehearsal.proofs.commands.scanning.Goals as goal

pub loop-volume-preserved : goal.loop-volume-preserved
loop-volume-preserved c =
    let v = c.loop-volume.volume in
    let front = c.args.commands.now in
    let next : v - 1 + 1 ≡ v = omega (arith, c.loop-volume.auto.volume) in
    let last : v + 1 - 1 ≡ v = omega arith in
    c.in_ok-push-2.ensures.ok ∙ (λ i. c.loop-volume.invariant i ++ c.in_ok-restoring.ensures i ∷ [])
    ∙ mapped_more restoring front scanning (v - 1) v next ∙ ap (λ (n : ℕ). front ++ scanning ∷ map restoring (volumes n)) (sym last)
