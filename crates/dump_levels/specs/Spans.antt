-- When the dumps of a level expire.
use Rattle.std.specs.Prelude.{ℕ, ◌+◌, ◌*◌, ◌/◌, ◌%◌, min, List, [], ◌∷◌, if◌then◌else◌, Option, Some, None, Result, Ok, Err}
use Rattle.bk_text.specs.declared.expiry.Expiry.{Expiry}
use Rattle.bk_text.specs.declared.expiry.Expiry.TheVariants.{Unset, Never, At, In}
use Rattle.dump_levels.specs.declared.levels.Level.{Level}
use Rattle.dump_levels.specs.declared.levels.LevelFault.{LevelFault}
use Rattle.dump_levels.specs.declared.levels.LevelFault.TheVariants.{NoSuchLevel}
use Rattle.dump_levels.specs.Calendar.{days_since, day_at, months_after}
use Rattle.dump_levels.specs.Trees.{is_level}

-- So long after a second: years and months are added to its day first, which is held to the month's end, and then
-- days. The time of day is kept.
abbrev pub second_after : ℕ → ℕ → ℕ → ℕ → ℕ
second_after created years months days =
    (days_since (months_after (day_at (created / 86400)) (12 * years + months)) + days) * 86400 + created % 86400

-- The second with which a dump expires that was created at this one, at the latest the last of 2037: 0 where it has no
-- expiration, and the greatest number where it never expires.
abbrev pub expires_at : ℕ → Expiry → ℕ
expires_at created Unset = 0
expires_at created Never = 4294967295
expires_at created (At second) = min second 2145916799
expires_at created (In years months days) = min (second_after created years months days) 2145916799

-- the expiration that the level of this path has
abbrev pub expiry_in : List Level → List ℕ → Option Expiry
expiry_in [] path = None
expiry_in (level ∷ rest) path = if is_level path level then Some level.expiry else expiry_in rest path

-- when a dump of the level of this path expires, which is there
abbrev pub expires_in : List Level → List ℕ → ℕ → Result ℕ LevelFault
expires_in levels path created = elim (expiry_in levels path) [ None ↦ Err NoSuchLevel | Some expiry ↦ Ok (expires_at created expiry) ]
