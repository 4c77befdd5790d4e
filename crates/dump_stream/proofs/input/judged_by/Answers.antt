use Rattle.std.proofs.Common.{ℕ, ◌≡◌, ◌+◌, ◌++◌, length, take, subst, sym, arith, length-append}
use Rattle.dump_stream.specs.Stream.{Spells}
use Rattle.dump_stream.proofs.InputLaws.{ended_now}
use Rattle.dump_stream.proofs.input.judged_by.Goals as goal

pub returns-in-Ok-Done-clause-held : goal.returns-in-Ok-Done-clause-held
returns-in-Ok-Done-clause-held c = λ bytes fed taken small.
    let ensures = rw c.in-Ok-Done.field-0-is at c.in-Ok-Done.ensures in
    let answer = ensures.answer bytes fed small in
    let at : c.saturating_add.result ≡ length bytes + c.in-Ok-Done.used = omega (arith, taken, small, answer.0.0, c.saturating_add.ensures) in
    ended_now bytes c.args.piece.now c.feed.new.self c.saturating_add.result answer.0.1 answer.1 ensures.leaves
    (omega (arith, at, answer.0.0, length-append bytes c.args.piece.now))
    (subst (λ (n : ℕ). Spells (take n (bytes ++ c.args.piece.now)) answer.0.1) (sym at) answer.0.2.1)
