-- A catalog with one more under its name, and with one less.
use Rattle.std.proofs.Common.{◌≡◌, ℕ, ◌≤◌, Bool, true, false, cond, not, List, [], ◌∷◌, length, get_or, set, refl, ◌∙◌, ap, subst, arith}
use Rattle.std.specs.Prelude.{filter}
use Rattle.std.specs.List.{insert, remove}
use Rattle.std.specs.Ordering.{is_eq}
use Rattle.std.specs.Cmp.Lexicographic.{nat_list_cmp_total}
use Rattle.std.proofs.lemmas.List.{length-set}
use Rattle.std.proofs.lemmas.List.Edits.{length-insert}
use Rattle.cell_core.specs.Places.{FoundAt, FreeAt}
use Rattle.cell_core.specs.Listings.{name_order, most_volumes}
use Rattle.cell_core.proofs.CellLaws.{same_name}
use Rattle.cell_core.proofs.OrderLaws.{placed_found, placed_free, placed_ascending, without_ascending}
use Rattle.dir_cell.specs.declared.known.Known.{Known}
use Rattle.dir_cell.specs.Catalogs.{name_of, with_known, without_known, IsCatalog, HasPlace}

catalog_with : (k : Known) (catalog : List Known) → IsCatalog catalog → length (with_known k catalog) ≤ most_volumes → IsCatalog (with_known k catalog)
catalog_with k catalog is few = record {
  few = few;
  ordered = placed_ascending name_order name_of nat_list_cmp_total k catalog is.ordered;
}

filter_fewer : (p : Known → Bool) (catalog : List Known) → length (filter p catalog) ≤ length catalog
filter_fewer p [] = omega arith
filter_fewer p (k ∷ catalog) = elim (p k) as (λ b. length (cond b (k ∷ filter p catalog) (filter p catalog)) ≤ length (k ∷ catalog)) [ true ↦ omega (arith, filter_fewer p catalog) | false ↦ omega (arith, filter_fewer p catalog) ]

pub catalog_without : (name : List ℕ) (catalog : List Known) → IsCatalog catalog → IsCatalog (without_known name catalog)
catalog_without name catalog is = record {
  few = omega (arith, is.few, filter_fewer (λ (k : Known). not (is_eq (name_order k.name name))) catalog);
  ordered = without_ascending name_order name_of nat_list_cmp_total name catalog is.ordered;
}

-- ---- by a place

module _ (catalog : List Known) (at : ℕ) (k : Known) where
  pub with_found : FoundAt name_order name_of k.name catalog at → with_known k catalog ≡ set catalog at k
  with_found found = placed_found name_order name_of k.name catalog at k found refl

  pub with_free : FreeAt name_order name_of k.name catalog at → with_known k catalog ≡ insert catalog at k
  with_free free = placed_free name_order name_of k.name catalog at k free refl

  pub catalog_set : IsCatalog catalog → FoundAt name_order name_of k.name catalog at → IsCatalog (set catalog at k)
  catalog_set is found =
      subst IsCatalog (with_found found) (catalog_with k catalog is (rw (with_found found) (omega (arith, length-set catalog at k, is.few))))

  pub catalog_insert : IsCatalog catalog → FreeAt name_order name_of k.name catalog at → HasPlace k.name catalog → IsCatalog (insert catalog at k)
  catalog_insert is free place =
      subst IsCatalog (with_free free) (catalog_with k catalog is (rw (with_free free) (omega (arith, length-insert catalog at k free.within, place free.none))))

pub catalog_remove : (name : List ℕ) (catalog : List Known) (at : ℕ) → IsCatalog catalog → FoundAt name_order name_of name catalog at → IsCatalog (remove catalog at)
catalog_remove name catalog at is found = subst IsCatalog found.others (catalog_without name catalog is)

-- what stands at a place where a name was found has that name
pub found_name : (name : List ℕ) (catalog : List Known) (at : ℕ) (k : Known) → FoundAt name_order name_of name catalog at → k ≡ get_or catalog at k → k.name ≡ name
found_name name catalog at k found is = ap (λ (l : Known). l.name) is ∙ same_name (get_or catalog at k).name name (found.key_is k)
