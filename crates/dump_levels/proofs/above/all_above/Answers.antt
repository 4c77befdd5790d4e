use Rattle.std.proofs.Common.{◌∙◌, ◌≡◌, ◌<◌, ◌++◌, sym, ap, subst, ℕ, List, Option, length}
use Rattle.bk_text.specs.LevelPaths.{elements_of}
use Rattle.dump_levels.specs.Elements.{paths_above}
use Rattle.dump_levels.proofs.AboveLaws.{paths_from, elements_left, all_from, fewer, one_more}
use Rattle.dump_levels.proofs.above.all_above.Goals as goal

pub loop-next-init : goal.loop-next-init
loop-next-init c =
    ap (λ (l : List (List ℕ)). l ++ paths_from c.in_ok-next.next) c.new-paths.ensures ∙ ap paths_from c.in_ok-next.ensures.is ∙ sym (all_from c.args.path.now c.above.ensures.form)

pub loop-next-smaller : goal.loop-next-smaller
loop-next-smaller c =
    subst (λ (n : Option (List ℕ)). elements_left c.in_ok-next-2.next < elements_left n) (sym c.in-Some.is) (subst (λ (n : Option (List ℕ)). elements_left n < length (elements_of c.in-Some.upper)) (sym c.in_ok-next-2.ensures.is) (fewer c.in-Some.upper c.above-in-Some.ensures.form))

pub loop-next-preserved : goal.loop-next-preserved
loop-next-preserved c =
    ap (λ (l : List (List ℕ)). l ++ paths_from c.in_ok-next-2.next) c.in_ok-push.ensures.ok ∙ one_more c.loop-next.paths (paths_above c.args.path.now) c.in-Some.upper c.in_ok-next-2.next c.above-in-Some.ensures.form c.in_ok-next-2.ensures.is (subst (λ (n : Option (List ℕ)). c.loop-next.paths ++ paths_from n ≡ paths_above c.args.path.now) c.in-Some.is c.loop-next.invariant)
