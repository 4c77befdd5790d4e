-- The last element of a level's path.
use Rattle.std.proofs.Common.{◌≡◌, ℕ, List, [], ◌∷◌, ◌++◌, refl, sym, ◌∙◌, ap, subst}
use Rattle.std.specs.Prelude.{Option, Some, None}
use Rattle.std.specs.List.{last_or}
use Rattle.std.specs.Option.{unwrap_or}
use Rattle.bk_text.specs.LevelPaths.{elements_of, IsPathOf, IsLevelPath}
use Rattle.bk_text.proofs.LevelParts.{has_last, elements_are}
use Rattle.backup_replies.specs.Dumps.{last_element}

last_or_end : (o : Option (List ℕ)) (es : List (List ℕ)) (e : List ℕ) → last_or o (es ++ e ∷ []) ≡ Some e
last_or_end o [] e = refl
last_or_end o (x ∷ xs) e = last_or_end (Some x) xs e

pub last_is : (path last : List ℕ) → IsLevelPath path → ((es : List (List ℕ)) (e : List ℕ) → IsPathOf (es ++ e ∷ []) path → last ≡ e) → last ≡ last_element path
last_is path last is answers =
    let parts = has_last is.elements is.some in
    let whole : IsPathOf (parts.before ++ parts.last ∷ []) path = subst (λ (l : List (List ℕ)). IsPathOf l path) parts.is is.is in
    answers parts.before parts.last whole
    ∙ sym (ap (λ (l : List (List ℕ)). unwrap_or (last_or None l) []) (elements_are _ path whole) ∙ ap (λ (o : Option (List ℕ)). unwrap_or o []) (last_or_end None parts.before parts.last))
