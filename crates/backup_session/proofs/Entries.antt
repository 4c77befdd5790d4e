-- The entries of a cell, one after the other.
use Rattle.std.proofs.Common.{zero, suc, ◌≡◌, ℕ, ◌+◌, List, [], ◌∷◌, ◌++◌, take, refl, sym, ◌∙◌, ap, arith, append_assoc}
use Rattle.std.specs.Prelude.{Option, Some, None, map, slice_get}
use Rattle.std.specs.List.{fold, flat_map}
use Rattle.std.proofs.lemmas.List.{append-nil}
use Rattle.std.proofs.lemmas.Grind.{fold-append}
use Rattle.vnode_model.specs.declared.listed.VolEntry.{VolEntry}
use Rattle.cell_core.specs.declared.stored.Stored.{Stored}
use Rattle.cell_core.specs.Calls.{entry_of_stored, entry_of, entry_at}
use Rattle.backup_replies.specs.Volumes.{listed_line}
use Rattle.backup_session.specs.Opening.{with_state, with_stored}

-- what stands at a place
pub record Stands (cell : List Stored) (i : ℕ) (entry : VolEntry) : Type 0 where
  pub stored : Stored
  pub is : entry ≡ entry_of_stored stored
  pub more : take (i + 1) cell ≡ take i cell ++ stored ∷ []

get_more : (cell : List Stored) (i : ℕ) (s : Stored) → slice_get cell i ≡ Some s → take (i + 1) cell ≡ take i cell ++ s ∷ []
get_more [] i s is = let e : None ≡ Some s = is in cc
get_more (x ∷ xs) zero s is = let e : Some x ≡ Some s = is in let same : x ≡ s = cc in ap (λ (y : Stored). y ∷ []) same
get_more (x ∷ xs) (suc i) s is = ap (λ (n : ℕ). take n (x ∷ xs)) (next i) ∙ ap (λ (l : List Stored). x ∷ l) (get_more xs i s is)
  where
    next : (n : ℕ) → suc n + 1 ≡ suc (n + 1)
    next n = omega arith

pub stands_at : (cell : List Stored) (i : ℕ) (entry : VolEntry) → entry_at cell i ≡ Some entry → Stands cell i entry
stands_at cell i entry is = found (slice_get cell i) refl is
  where
    found : (o : Option Stored) → slice_get cell i ≡ o → entry_of o ≡ Some entry → Stands cell i entry
    found None there e = absurd (let f : None ≡ Some entry = e in cc)
    found (Some s) there e = record { stored = s; is = (let f : Some (entry_of_stored s) ≡ Some entry = e in cc); more = get_more cell i s there }

-- a time with one entry more
pub time_more : (cell : List Stored) (i : ℕ) (entry : VolEntry) (first so_far : ℕ) → entry_at cell i ≡ Some entry → so_far ≡ fold with_stored first (take i cell) → with_state so_far entry.state ≡ fold with_stored first (take (i + 1) cell)
time_more cell i entry first so_far is sum =
    let s = stands_at cell i entry is in
    ap (λ (t : ℕ). with_state t entry.state) sum ∙ ap (λ (e : VolEntry). with_state (fold with_stored first (take i cell)) e.state) s.is
    ∙ sym (ap (fold with_stored first) s.more ∙ fold-append with_stored first (take i cell) (s.stored ∷ []))

-- lines with one entry more
pub lines_more : (cell : List Stored) (i : ℕ) (entry : VolEntry) (lines : List ℕ) → entry_at cell i ≡ Some entry → lines ≡ flat_map listed_line (map entry_of_stored (take i cell)) → lines ++ listed_line entry ≡ flat_map listed_line (map entry_of_stored (take (i + 1) cell))
lines_more cell i entry lines is sum =
    let s = stands_at cell i entry is in
    ap (λ (l : List ℕ). l ++ listed_line entry) sum ∙ ap (λ (e : VolEntry). flat_map listed_line (map entry_of_stored (take i cell)) ++ listed_line e) s.is
    ∙ sym (ap (λ (l : List Stored). flat_map listed_line (map entry_of_stored l)) s.more ∙ over (take i cell) s.stored)
  where
    over : (l : List Stored) (x : Stored) → flat_map listed_line (map entry_of_stored (l ++ x ∷ [])) ≡ flat_map listed_line (map entry_of_stored l) ++ listed_line (entry_of_stored x)
    over [] x = append-nil (listed_line (entry_of_stored x))
    over (y ∷ l) x = ap (λ (r : List ℕ). listed_line (entry_of_stored y) ++ r) (over l x) ∙ sym (append_assoc (listed_line (entry_of_stored y)) (flat_map listed_line (map entry_of_stored l)) (listed_line (entry_of_stored x)))
