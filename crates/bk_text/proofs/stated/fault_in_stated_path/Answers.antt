use Rattle.std.proofs.Common.{ℕ, ◌≡◌, ◌<◌, ◌+◌, ◌-◌, ◌∙◌, get_or, refl, subst, sym, arith, lit≤}
use Rattle.std.proofs.lemmas.Bool.{iff_false, eqb-true, eqb-false}
use Rattle.bk_text.specs.LevelPaths.{MayFollowBefore}
use Rattle.bk_text.proofs.StatedLaws.{GoesOn, first_stuck, begins, goes_slash, goes_byte, path_begun, path_begun_empty, path_stuck}
use Rattle.bk_text.proofs.stated.fault_in_stated_path.Goals as goal
use Rattle.bk_text.proofs.stated.fault_in_stated_path.Goals.{then-byte-eq47, else-byte-eq47}

pos : (n : ℕ) → (n ≡ 0 → ⊥) → 0 < n
pos n ne = omega arith

pub returns-then-is_empty : goal.returns-then-is_empty
returns-then-is_empty c = path_begun_empty c.args.count c.args.front.now c.requires.some c.requires.most (eqb-true _ _ (sym c.is_empty.ensures ∙ c.if-is_empty.true))

pub returns-then-front-ne47 : goal.returns-then-front-ne47
returns-then-front-ne47 c = first_stuck c.args.count c.args.front.now (pos _ (eqb-false _ _ (sym c.is_empty.ensures ∙ c.if-is_empty.false))) c.requires.some c.requires.most c.requires.within c.if-front-ne47.true

pub loop-at-init : goal.loop-at-init
loop-at-init c = (lit≤ tt, begins c.args.count c.args.front.now (pos _ (eqb-false _ _ (sym c.is_empty.ensures ∙ c.if-is_empty.false))) c.requires.some c.requires.most c.if-front-ne47.false)

pub returns-then-not-may_follow_before : goal.returns-then-not-may_follow_before
returns-then-not-may_follow_before c =
    let text = c.args.front.now in
    path_stuck c.args.count c.loop-at.in_element c.loop-at.at (get_or text c.loop-at.at 0) text c.loop-at-test.true c.requires.most c.requires.within c.loop-at.invariant.1 refl (iff_false c.may_follow_before.ensures c.if-not-may_follow_before.true)

pub loop-at-preserved : goal.loop-at-preserved
loop-at-preserved c =
    let text = c.args.front.now in
    let at = c.loop-at.at in
    let count = c.loop-at.in_element in
    let whole = c.args.count in
    let may : MayFollowBefore count (whole - at - 1) (get_or text at 0) = c.may_follow_before.ensures.0 c.if-not-may_follow_before.false in (
      omega arith,
      elim c.if-byte-eq47.branch [
        | then-byte-eq47 w ↦
            subst (λ (k : ℕ). GoesOn whole k (at + 1) text) (sym w.in_element-is)
            (goes_slash whole count at text c.loop-at-test.true c.requires.most c.requires.within c.loop-at.invariant.1 w.if-byte-eq47.true (subst (MayFollowBefore count (whole - at - 1)) w.if-byte-eq47.true may))
        | else-byte-eq47 w ↦
            subst (λ (k : ℕ). GoesOn whole k (at + 1) text) (sym w.in_element-is)
            (goes_byte whole count at (get_or text at 0) text c.loop-at-test.true c.requires.most c.requires.within c.loop-at.invariant.1 refl w.if-byte-eq47.false may)
      ],
    )

pub returns : goal.returns
returns c = path_begun c.args.count c.loop-at.in_element c.loop-at.at c.args.front.now c.requires.most c.requires.within c.loop-at-test.false (c.loop-at.auto.at-end (pos _ (eqb-false _ _ (sym c.is_empty.ensures ∙ c.if-is_empty.false)))) c.loop-at.invariant.1
