-- The refusals that this program tells: the number and the name of each.
use Rattle.std.specs.Prelude.{ℕ, List, codes}
use Rattle.backup_top.specs.declared.refusals.Refusal.{Refusal}
use Rattle.backup_top.specs.declared.refusals.Refusal.TheVariants.{BadImage, CutStream}

-- the number of a refusal that the program itself tells
abbrev pub refusal_number : Refusal → ℕ
refusal_number BadImage = 85
refusal_number CutStream = 86

-- its name
abbrev pub refusal_name : Refusal → List ℕ
refusal_name BadImage = codes "BadImage"
refusal_name CutStream = codes "CutStream"
