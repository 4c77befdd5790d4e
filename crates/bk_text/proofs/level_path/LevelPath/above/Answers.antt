use Rattle.std.proofs.Common.{ℕ, List, [], ◌∷◌, ◌++◌, ◌∙◌, sym, subst, ap, take}
use Rattle.bk_text.specs.LevelPaths.{IsPathOf, IsLevelPath, IsLastSlash}
use Rattle.bk_text.proofs.LevelParts.{some_above, above_is_path}
use Rattle.bk_text.proofs.level_path.LevelPath.above.Goals as goal

pub invariant_of-result : goal.invariant_of-result
invariant_of-result c =
    let at = c.last_slash-at.result in
    let text = c.self.inside.bytes in
    let slash : IsLastSlash text at = subst (λ (l : List ℕ). IsLastSlash l at) c.as_slice.ensures c.last_slash-at.ensures.last in
    subst IsLevelPath (sym (c.truncate.ensures ∙ ap (take at) c.in_ok-bytes.ensures)) (above_is_path text at c.self.invariant slash c.if-at-eq0.false)

pub returns : goal.returns
returns c elements last is =
    let at = c.last_slash-at.result in
    let text = c.self.inside.bytes in
    let slash : IsLastSlash text at = subst (λ (l : List ℕ). IsLastSlash l at) c.as_slice.ensures c.last_slash-at.ensures.last in
    some_above text c.truncate.new.self at slash c.if-at-eq0.false (c.truncate.ensures ∙ ap (take at) c.in_ok-bytes.ensures) elements last (subst (IsPathOf (elements ++ last ∷ [])) (sym c.self.view_is) is)
