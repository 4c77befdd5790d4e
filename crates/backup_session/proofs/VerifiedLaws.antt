-- How many dump sets have lost their initial dump.
use Rattle.std.proofs.Common.{◌≡◌, ℕ, ◌+◌, ◌<◌, List, [], ◌∷◌, ◌++◌, length, take, get_or, ◌∙◌, ap, length-append}
use Rattle.std.specs.Prelude.{not}
use Rattle.std.specs.List.{filter}
use Rattle.std.proofs.lemmas.List.{take_more}
use Rattle.std.proofs.lemmas.List.Elements.{filter-append}
use Rattle.budb_save.specs.declared.verifying.Group.{Group}
use Rattle.backup_session.specs.Verified.{lost_count}

lost_more : (before behind : List Group) → lost_count (before ++ behind) ≡ lost_count before + lost_count behind
lost_more before behind =
    ap length (filter-append (λ (g : Group). not g.listed) before behind) ∙ length-append (filter (λ (g : Group). not g.listed) before) (filter (λ (g : Group). not g.listed) behind)

-- one dump set more
pub lost_next : (groups : List Group) (i : ℕ) (g : Group) → i < length groups → lost_count (take (i + 1) groups) ≡ lost_count (take i groups) + lost_count (get_or groups i g ∷ [])
lost_next groups i g within = ap lost_count (take_more groups i g within) ∙ lost_more (take i groups) (get_or groups i g ∷ [])
