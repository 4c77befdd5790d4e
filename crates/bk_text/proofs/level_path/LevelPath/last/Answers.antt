use Rattle.std.proofs.Common.{ℕ, List, [], ◌∷◌, ◌++◌, ◌+◌, ◌-◌, ◌≡◌, ◌∙◌, sym, subst, length, take, drop, arith}
use Rattle.std.proofs.lemmas.List.{take_all, length-drop}
use Rattle.bk_text.specs.LevelPaths.{IsPathOf}
use Rattle.bk_text.proofs.LevelParts.{behind_slash}
use Rattle.bk_text.proofs.level_path.LevelPath.last.Goals as goal

whole : (text : List ℕ) (k : ℕ) → take (length text - k) (drop k text) ≡ drop k text
whole text k = take_all (length text - k) (drop k text) (omega (arith, length-drop k text))

pub returns : goal.returns
returns c elements last is =
    let text = c.as_slice-path.result.now in
    whole text (c.last_slash.result + 1) ∙ behind_slash text c.last_slash.result c.last_slash.ensures.last elements last (subst (IsPathOf (elements ++ last ∷ [])) (sym (c.as_slice-path.ensures ∙ c.self.view_is)) is)
