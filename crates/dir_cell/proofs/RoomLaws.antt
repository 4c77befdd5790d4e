-- Where there is an id for a name, there is a place for it.
use Rattle.std.proofs.Common.{◌≡◌, ℕ, ◌+◌, ◌≤◌, Bool, true, false, cond, List, length, refl, sym, ◌∙◌, ap, arith}
use Rattle.std.specs.Prelude.{Option, Some, None, nat_lt}
use Rattle.std.proofs.lemmas.Bool.{leb-false, ltb-false}
use Rattle.cell_core.specs.Listings.{most_volumes, is_full, free_id, new_id, backup_id_where}
use Rattle.dir_cell.specs.declared.known.Known.{Known}
use Rattle.dir_cell.specs.Catalogs.{standing_of, known_as, HasPlace}
use Rattle.dir_cell.specs.Refusals.{id_for_backup}

pub room_for_new : (catalog : List Known) (id : ℕ) → new_id standing_of catalog ≡ Some id → length catalog + 1 ≤ most_volumes
room_for_new catalog id g = by (is_full catalog) refl g
  where
    by : (b : Bool) → is_full catalog ≡ b → cond b None (free_id standing_of catalog) ≡ Some id → length catalog + 1 ≤ most_volumes
    by true e g = absurd cc
    by false e g = let h = leb-false most_volumes (length catalog) e in omega (arith, h)

pub room_for_copy : (catalog : List Known) (name : List ℕ) (id : ℕ) → id_for_backup name catalog ≡ Some id → HasPlace name catalog
room_for_copy catalog name id h none =
    elim (nat_lt 31 (length name)) as (λ b. cond b None (backup_id_where standing_of (known_as name catalog) catalog) ≡ Some id → length catalog + 1 ≤ most_volumes) [
      | true ↦ λ g. absurd cc
      | false ↦ λ g. room_for_new catalog id (sym (ap (λ (o : Option Known). backup_id_where standing_of o catalog) none) ∙ g)
    ] h

-- an id for a backup volume's name says that the name is short
pub short_for_copy : (catalog : List Known) (name : List ℕ) (id : ℕ) → id_for_backup name catalog ≡ Some id → length name ≤ 31
short_for_copy catalog name id h = by (nat_lt 31 (length name)) refl h
  where
    by : (b : Bool) → nat_lt 31 (length name) ≡ b → cond b None (backup_id_where standing_of (known_as name catalog) catalog) ≡ Some id → length name ≤ 31
    by true e g = absurd cc
    by false e g = let l = ltb-false 31 (length name) e in omega (arith, l)

-- a name that is known has its place
pub known_has_place : (catalog : List Known) (name : List ℕ) (k : Known) → known_as name catalog ≡ Some k → HasPlace name catalog
known_has_place catalog name k some none = let e : None ≡ Some k = sym none ∙ some in absurd (cc)
