use Rattle.std.proofs.Common.{ℕ, ◌∙◌, ◌<◌, ◌≡◌, ◌≤◌, ◌+◌, length, get_or, subst, arith, sym, refl}
use Rattle.std.proofs.lemmas.Bool.{eqb-true, eqb-false, false≢true}
use Rattle.bk_text.specs.LevelPaths.{MayFollow}
use Rattle.bk_text.proofs.LevelLaws.{GoesPath, path_begins, path_slash_more, path_byte_more, path_fails, path_whole, path_unended, no_path, no_slash}
use Rattle.bk_text.proofs.level_path.fault_in_path.Goals as goal
use Rattle.bk_text.proofs.level_path.fault_in_path.Goals.{then-byte-eq47, else-byte-eq47}

pos : (n : ℕ) → (n ≡ 0 → ⊥) → 0 < n
pos n ne = omega arith

whole : (i n : ℕ) → n ≤ i → i ≤ n → i ≡ n
whole i n under over = omega arith

pub returns-then-is_empty : goal.returns-then-is_empty
returns-then-is_empty c = no_path c.args.text.now (eqb-true _ _ (sym c.is_empty.ensures ∙ c.if-is_empty.true))

pub returns-then-text-ne47 : goal.returns-then-text-ne47
returns-then-text-ne47 c = no_slash c.args.text.now (pos _ (eqb-false _ _ (sym c.is_empty.ensures ∙ c.if-is_empty.false))) c.if-text-ne47.true

pub loop-at-init : goal.loop-at-init
loop-at-init c = path_begins c.args.text.now (pos _ (eqb-false _ _ (sym c.is_empty.ensures ∙ c.if-is_empty.false))) c.if-text-ne47.false

pub returns-then-not-may_follow : goal.returns-then-not-may_follow
returns-then-not-may_follow c = path_fails c.loop-at.count c.loop-at.at (get_or c.args.text.now c.loop-at.at 0) c.args.text.now c.loop-at-test.true c.loop-at.invariant refl (λ may. absurd (false≢true (sym c.if-not-may_follow.true ∙ c.may_follow.ensures.1 may)))

pub loop-at-preserved : goal.loop-at-preserved
loop-at-preserved c =
    let text = c.args.text.now in
    let at = c.loop-at.at in
    let byte = get_or text at 0 in
    let may : MayFollow c.loop-at.count at byte = c.may_follow.ensures.0 c.if-not-may_follow.false in
    elim c.if-byte-eq47.branch [
      | then-byte-eq47 w ↦ subst (λ (k : ℕ). GoesPath k (at + 1) text) (sym w.count-is) (path_slash_more c.loop-at.count at text c.loop-at-test.true c.loop-at.invariant w.if-byte-eq47.true (subst (MayFollow c.loop-at.count at) w.if-byte-eq47.true may))
      | else-byte-eq47 w ↦ subst (λ (k : ℕ). GoesPath k (at + 1) text) (sym w.count-is) (path_byte_more c.loop-at.count at byte text c.loop-at-test.true c.loop-at.invariant refl w.if-byte-eq47.false may)
    ]

pub returns-then-count-eq0 : goal.returns-then-count-eq0
returns-then-count-eq0 c =
    let all : c.loop-at.at ≡ length c.args.text.now = whole c.loop-at.at (length c.args.text.now) c.loop-at-test.false (c.loop-at.auto.at-end (pos _ (eqb-false _ _ (sym c.is_empty.ensures ∙ c.if-is_empty.false)))) in
    path_unended c.args.text.now (subst (λ (k : ℕ). GoesPath k (length c.args.text.now) c.args.text.now) c.if-count-eq0.true (subst (λ (k : ℕ). GoesPath c.loop-at.count k c.args.text.now) all c.loop-at.invariant))

pub returns-else-count-eq0 : goal.returns-else-count-eq0
returns-else-count-eq0 c =
    let all : c.loop-at.at ≡ length c.args.text.now = whole c.loop-at.at (length c.args.text.now) c.loop-at-test.false (c.loop-at.auto.at-end (pos _ (eqb-false _ _ (sym c.is_empty.ensures ∙ c.if-is_empty.false)))) in
    path_whole c.loop-at.count c.args.text.now (pos _ c.if-count-eq0.false) (subst (λ (k : ℕ). GoesPath c.loop-at.count k c.args.text.now) all c.loop-at.invariant)
