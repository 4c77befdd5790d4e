-- A cell with one more under its name, and with one less.
use Rattle.std.proofs.Common.{◌≡◌, ℕ, ◌<◌, ◌≤◌, Bool, true, false, cond, not, List, [], ◌∷◌, length, get_or, set, refl, sym, ◌∙◌, ap, subst, arith}
use Rattle.std.specs.Prelude.{filter, Some, Result, Ok, Err, OnOk, OnErr}
use Rattle.std.specs.List.{insert, remove}
use Rattle.std.specs.declared.cmp.Ordering.TheVariants.{Equal}
use Rattle.std.specs.Ordering.{is_eq}
use Rattle.std.specs.Cmp.Lexicographic.{nat_list_cmp_total}
use Rattle.std.proofs.lemmas.List.{length-set}
use Rattle.std.proofs.lemmas.List.Edits.{length-insert}
use Rattle.std.specs.FinMap.{nat_cmp-IsAntisymmetric, slice_cmp-IsAntisymmetric}
use Rattle.cell_core.specs.declared.stored.Stored.{Stored}
use Rattle.cell_core.specs.Places.{FoundAt, FreeAt}
use Rattle.cell_core.specs.Listings.{name_order, most_volumes}
use Rattle.cell_core.specs.Cells.{name_of, stored_as, with_stored, without_stored, IsImageOf, IsCell}
use Rattle.cell_core.proofs.OrderLaws.{placed_found, placed_free, placed_ascending, placed_all, without_ascending, without_all}

pub same_name : (a b : List ℕ) → name_order a b ≡ Equal → a ≡ b
same_name = slice_cmp-IsAntisymmetric nat_cmp-IsAntisymmetric

pub is_cell_with : (s : Stored) (cell : List Stored) → IsCell cell → IsImageOf s.name s.image → length (with_stored s cell) ≤ most_volumes → IsCell (with_stored s cell)
is_cell_with s cell is here few = record {
  few = few;
  ordered = placed_ascending name_order name_of nat_list_cmp_total s cell is.ordered;
  images = placed_all name_order name_of nat_list_cmp_total (λ (t : Stored). IsImageOf t.name t.image) s cell here is.images;
}

filter_fewer : (p : Stored → Bool) (cell : List Stored) → length (filter p cell) ≤ length cell
filter_fewer p [] = omega arith
filter_fewer p (s ∷ cell) = elim (p s) as (λ b. length (cond b (s ∷ filter p cell) (filter p cell)) ≤ length (s ∷ cell)) [ true ↦ omega (arith, filter_fewer p cell) | false ↦ omega (arith, filter_fewer p cell) ]

pub is_cell_without : (name : List ℕ) (cell : List Stored) → IsCell cell → IsCell (without_stored name cell)
is_cell_without name cell is = record {
  few = omega (arith, is.few, filter_fewer (λ (s : Stored). not (is_eq (name_order s.name name))) cell);
  ordered = without_ascending name_order name_of nat_list_cmp_total name cell is.ordered;
  images = without_all name_order name_of nat_list_cmp_total (λ (t : Stored). IsImageOf t.name t.image) name cell is.images;
}

-- ---- by a place

module _ (name : List ℕ) (cell : List Stored) (at : ℕ) (s : Stored) (same : s.name ≡ name) where
  pub with_found : FoundAt name_order name_of name cell at → with_stored s cell ≡ set cell at s
  with_found found = placed_found name_order name_of name cell at s found same

  pub with_free : FreeAt name_order name_of name cell at → with_stored s cell ≡ insert cell at s
  with_free free = placed_free name_order name_of name cell at s free same

  pub is_cell_set : IsCell cell → IsImageOf s.name s.image → FoundAt name_order name_of name cell at → IsCell (set cell at s)
  is_cell_set is here found =
      subst IsCell (with_found found) (is_cell_with s cell is here (rw (with_found found) (omega (arith, length-set cell at s, is.few))))

  pub is_cell_insert : IsCell cell → IsImageOf s.name s.image → FreeAt name_order name_of name cell at → length cell < most_volumes → IsCell (insert cell at s)
  is_cell_insert is here free room =
      subst IsCell (with_free free) (is_cell_with s cell is here (rw (with_free free) (omega (arith, length-insert cell at s free.within, room))))

pub without_found : (name : List ℕ) (cell : List Stored) (at : ℕ) → FoundAt name_order name_of name cell at → without_stored name cell ≡ remove cell at
without_found name cell at found = found.others

pub is_cell_remove : (name : List ℕ) (cell : List Stored) (at : ℕ) → IsCell cell → FoundAt name_order name_of name cell at → IsCell (remove cell at)
is_cell_remove name cell at is found = subst IsCell found.others (is_cell_without name cell is)

pub is_cell_stored : {E : Type 0} (cell new : List Stored) (at : ℕ) (s : Stored) (r : Result (Unit {0}) E) → IsCell cell → IsImageOf s.name s.image → FreeAt name_order name_of s.name cell at → length cell < most_volumes → OnOk r (new ≡ insert cell at s) → OnErr r (new ≡ cell) → IsCell new
is_cell_stored cell new at s (Ok done) is here free room ok err = subst IsCell (sym ok) (is_cell_insert s.name cell at s refl is here free room)
is_cell_stored cell new at s (Err e) is here free room ok err = subst IsCell (sym err) is

-- what stands at a place where a name was found has that name
pub found_name : (name : List ℕ) (cell : List Stored) (at : ℕ) (s : Stored) → FoundAt name_order name_of name cell at → s ≡ get_or cell at s → s.name ≡ name
found_name name cell at s found is = ap (λ (t : Stored). t.name) is ∙ same_name (get_or cell at s).name name (found.key_is s)

pub found_stored : (name : List ℕ) (cell : List Stored) (at : ℕ) (s : Stored) → FoundAt name_order name_of name cell at → s ≡ get_or cell at s → stored_as name cell ≡ Some s
found_stored name cell at s found is = found.there s ∙ ap Some (sym is)
