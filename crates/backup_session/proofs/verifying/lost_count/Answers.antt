use Rattle.std.proofs.Common.{ℕ, ◌+◌, take, sym, ◌∙◌, ap, arith}
use Rattle.std.proofs.lemmas.List.{take_all}
use Rattle.backup_session.specs.Verified.{lost_count}
use Rattle.backup_session.proofs.VerifiedLaws.{lost_next}
use Rattle.backup_session.proofs.verifying.lost_count.Goals as goal

pub loop-group-preserved : goal.loop-group-preserved
loop-group-preserved c =
    let i = c.loop-group.group-index in
    let xs = c.args.groups.now in
    record {
      counted = ap (λ (n : ℕ). n + c.lost_in-count.result) c.loop-group.invariant.counted ∙ ap (λ (n : ℕ). lost_count (take i xs) + n) c.lost_in-count.ensures.count ∙ sym (lost_next xs i _ c.loop-group-test.true);
      few = omega (arith, c.loop-group.invariant.few, c.lost_in-count.ensures.few);
    }

pub returns-clause-count : goal.returns-clause-count
returns-clause-count c = c.loop-group.invariant.counted ∙ ap lost_count (take_all c.loop-group.group-index c.args.groups.now (omega (arith, c.loop-group-test.false)))
