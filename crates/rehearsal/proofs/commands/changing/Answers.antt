use Rattle.std.proofs.Common.{◌≡◌, ℕ, ◌+◌, ◌-◌, ◌*◌, ◌++◌, ◌∷◌, [], List, sym, ◌∙◌, ap, arith}
use Rattle.std.specs.Prelude.{if◌then◌else◌}
use Rattle.backup_words.specs.declared.command.Command.{Command}
use Rattle.rehearsal.specs.Commands.{writing, is_changed, changing}
use Rattle.rehearsal.proofs.Counting.{kept_more}
use Rattle.rehearsal.proofs.commands.changing.Goals as goal

pub loop-volume-preserved : goal.loop-volume-preserved
loop-volume-preserved c =
    let v = c.loop-volume.volume in
    let r = c.args.round in
    let next : v - 1 + 1 ≡ v = omega (arith, c.loop-volume.auto.volume) in
    let last : v + 1 - 1 ≡ v = omega arith in
    c.in_ok-put_change.ensures ∙ ap (λ (l : List Command). l ++ (if is_changed r v then writing v (1000 * v + r) ∷ [] else [])) c.loop-volume.invariant
    ∙ kept_more (λ k. writing k (1000 * k + r)) (is_changed r) (v - 1) v next ∙ ap (λ (n : ℕ). changing n r) (sym last)
