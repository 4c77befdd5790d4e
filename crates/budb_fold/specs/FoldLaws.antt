-- What is so of the database of every log.
use Rattle.std.specs.Prelude.{◌≡◌, ◌≢◌, ℕ, ◌<◌, ◌≤◌, List, take, true, nat_eq, map, slice_get, All, Some}
use Rattle.std.specs.List.{IsDistinct}
use Rattle.bk_text.specs.Patterns.{IsPattern}
use Rattle.volume_sets.specs.declared.sets.VolumeSet.{VolumeSet}
use Rattle.dump_levels.specs.declared.levels.Level.{Level}
use Rattle.bk_text.specs.Blanks.{is_same_text}
use Rattle.dump_levels.specs.Elements.{path_above}
use Rattle.dump_levels.specs.Trees.{has_upper}
use Rattle.budb_changes.specs.declared.records.DumpRecordFields.{DumpRecordFields}
use Rattle.budb_fold.specs.declared.database.Database.{Database}

-- the patterns of a set's entries are patterns
abbrev pub HasPatterns : VolumeSet → Type 0
HasPatterns set = All (λ entry. IsPattern entry.pattern) set.entries

-- each level stands behind the one above it, where its path has one
abbrev pub AreBehindUpper : List Level → Type 0
AreBehindUpper levels = (k : ℕ) (level : Level) → slice_get levels k ≡ Some level → has_upper (take k levels) (path_above level.path) ≡ true

-- a dump without a parent has whole volumes alone
abbrev pub IsWholeWithoutParent : DumpRecordFields → Type 0
IsWholeWithoutParent dump = dump.parent ≡ 0 → All (λ volume. volume.from ≡ 0) dump.volumes

-- Each set, level and port stands once, each level behind the one above it, and patterns are patterns. Each id is listed once,
-- isn't 0, has its parent below it, and is at most the greatest that was begun or recorded.
pub record IsOrderly (db : Database) : Type 0 where
  pub sets_once : IsDistinct is_same_text (map (λ set. set.name) db.sets)
  pub patterns : All HasPatterns db.sets
  pub levels_once : IsDistinct is_same_text (map (λ level. level.path) db.levels)
  pub levels_behind : AreBehindUpper db.levels
  pub ports_once : IsDistinct nat_eq (map (λ host. host.port) db.hosts)
  pub ids_once : IsDistinct nat_eq (map (λ dump. dump.id) db.listed)
  pub ids_not_zero : All (λ dump. dump.id ≢ 0) db.listed
  pub parents_below : All (λ dump. dump.parent < dump.id) db.listed
  pub whole : All IsWholeWithoutParent db.listed
  pub greatest : All (λ dump. dump.id ≤ db.greatest) db.listed
