use Rattle.std.proofs.Common.{ℕ, ◌∙◌, ◌<◌, ◌≡◌, length, subst, arith, sym}
use Rattle.std.proofs.lemmas.List.Elements.{All-nil}
use Rattle.std.proofs.lemmas.Bool.{eqb-true, eqb-false, false≢true}
use Rattle.bk_text.specs.Words.{Allowed}
use Rattle.bk_text.proofs.WordLaws.{Goes, goes_more, word_fails, word_whole, nothing_fails}
use Rattle.bk_text.proofs.words.fault_in.Goals as goal

pos : (n : ℕ) → (n ≡ 0 → ⊥) → 0 < n
pos n ne = omega arith

pub loop-at-init : goal.loop-at-init
loop-at-init c = record { short = omega arith; first = λ lt. absurd (omega arith); each = All-nil (Allowed c.args.alphabet) }

pub returns-then-not-may_stand : goal.returns-then-not-may_stand
returns-then-not-may_stand c = word_fails c.args.alphabet c.args.most c.loop-at.at c.args.text.now c.requires c.loop-at-test.true c.loop-at.invariant (λ may. absurd (false≢true (sym c.if-not-may_stand.true ∙ c.may_stand.ensures.1 may)))

pub loop-at-preserved : goal.loop-at-preserved
loop-at-preserved c = goes_more c.args.alphabet c.args.most c.loop-at.at c.args.text.now c.loop-at-test.true c.loop-at.invariant (c.may_stand.ensures.0 c.if-not-may_stand.false)

pub returns-then-is_empty : goal.returns-then-is_empty
returns-then-is_empty c = nothing_fails c.args.alphabet c.args.most c.args.text.now c.requires (eqb-true _ _ (sym c.is_empty.ensures ∙ c.if-is_empty.true))

pub returns-else-is_empty : goal.returns-else-is_empty
returns-else-is_empty c =
    let all : c.loop-at.at ≡ length c.args.text.now = omega arith in
    word_whole c.args.alphabet c.args.most c.args.text.now (pos _ (eqb-false _ _ (sym c.is_empty.ensures ∙ c.if-is_empty.false))) (subst (λ (k : ℕ). Goes c.args.alphabet c.args.most k c.args.text.now) all c.loop-at.invariant)
