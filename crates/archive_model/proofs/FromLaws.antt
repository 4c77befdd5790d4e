-- A from time is 0, or the volume follows its clone in the parent since then.
use Rattle.std.proofs.Common.{◌≡◌, ◌⊎◌, ℕ, ◌<◌, ◌≤◌, true, Some, refl, arith, inl, inr}
use Rattle.std.specs.Prelude.{nat_lt}
use Rattle.std.proofs.lemmas.Bool.{cases_Bool}
use Rattle.std.proofs.lemmas.Bool.Decides.{nat_tests}
use Rattle.vnode_model.specs.declared.volumes.VolumeFields.{VolumeFields}
use Rattle.vnode_model.specs.Increments.{Follows}
use Rattle.budb_changes.specs.declared.records.VolRecordFields.{VolRecordFields}
use Rattle.budb_fold.specs.Lookups.{from_volume}

lt_is : (a b : ℕ) → nat_lt a b ≡ true → a < b
lt_is a b is = grind (arith, nat_tests)

-- The clone in the parent is `old`, and the cell is fair to it: the volume was born at its clone time or later, or it follows it.
pub from_is_fair : (v : VolRecordFields) (born : ℕ) (old new : VolumeFields) → (v.clone ≤ born) ⊎ Follows old v.clone new → (from_volume (Some v) born ≡ 0) ⊎ Follows old (from_volume (Some v) born) new
from_is_fair v born old new fair = elim (cases_Bool (nat_lt born v.clone)) [
  | inl before ↦ elim fair [
    | inl late ↦ absurd (let lt = lt_is born v.clone before in omega arith)
    | inr follows ↦ inr (rw before follows)
  ]
  | inr after ↦ inl (rw after refl)
]
