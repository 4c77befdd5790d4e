use Rattle.std.proofs.Common.{ℕ, ◌≡◌, ◌∙◌, length, replicate, sym, ap, arith}
use Rattle.std.proofs.lemmas.List.{take_all}
use Rattle.tape_frames.proofs.Blanks.{zeros_more}
use Rattle.tape_frames.proofs.blank.first_set.Goals as goal

pub returns-then-byte-ne0 : goal.returns-then-byte-ne0
returns-then-byte-ne0 c = (c.loop-at-test.true, c.loop-at.invariant, c.if-byte-ne0.true)

pub loop-at-preserved : goal.loop-at-preserved
loop-at-preserved c = zeros_more c.args.bytes.now c.loop-at.at c.loop-at-test.true c.loop-at.invariant c.if-byte-ne0.false

pub returns : goal.returns
returns c =
    let all : c.loop-at.at ≡ length c.args.bytes.now = omega arith in
    sym (take_all c.loop-at.at c.args.bytes.now (omega arith)) ∙ c.loop-at.invariant ∙ ap (λ (n : ℕ). replicate n 0) all
