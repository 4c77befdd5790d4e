-- The entries of a cell, one after the other, and the volumes at some of their places.
use Rattle.std.proofs.Common.{zero, suc, ◌≡◌, ℕ, ◌+◌, ◌<◌, ◌≤◌, List, [], ◌∷◌, ◌++◌, length, take, drop, drop-cons, get_or, map, Bool, true, false, inl, inr, refl, sym, ◌∙◌, ap, subst, arith}
use Rattle.std.specs.Prelude.{Option, Some, None, is_some, slice_get, All, IsTrue}
use Rattle.std.proofs.lemmas.Bool.{cases_Bool, false≢true}
use Rattle.std.proofs.lemmas.List.{map-append}
use Rattle.std.proofs.lemmas.List.Elements.{All-cons, All-nil, All-head, All-tail}
use Rattle.vnode_model.specs.declared.listed.VolEntry.{VolEntry}
use Rattle.vnode_model.specs.declared.listed.EntryState.{EntryState}
use Rattle.vnode_model.specs.declared.listed.EntryState.TheVariants as state
use Rattle.cell_core.specs.declared.stored.Stored.{Stored}
use Rattle.cell_core.specs.declared.stored.Image.{Image}
use Rattle.cell_core.specs.declared.stored.Image.TheVariants.{Good, Bad}
use Rattle.cell_core.specs.declared.stored.Taken.{Taken}
use Rattle.cell_core.specs.Calls.{state_of, entry_of_stored, entry_of, entry_at, clone_at, is_good_image, is_good}
use Rattle.budb_changes.specs.declared.records.DumpRecordFields.{DumpRecordFields}
use Rattle.budb_fold.specs.Lookups.{from_of}
use Rattle.backup_replies.specs.Restores.{would_volume_line}
use Rattle.volume_sets.specs.declared.sets.SetEntry.{SetEntry}
use Rattle.dump_commands.specs.Expanding.{some_suits, places_from, expansion}
use Rattle.dump_commands.specs.Refusals.{bad_by, bad_or, first_bad}
use Rattle.dump_commands.specs.Trials.{volume_line, line_at}

-- ---- entries

get_more : (cell : List Stored) (i : ℕ) (s : Stored) → slice_get cell i ≡ Some s → take (i + 1) cell ≡ take i cell ++ s ∷ []
get_more [] i s is = let e : None ≡ Some s = is in cc
get_more (x ∷ xs) zero s is = let e : Some x ≡ Some s = is in let same : x ≡ s = cc in ap (λ (y : Stored). y ∷ []) same
get_more (x ∷ xs) (suc i) s is = ap (λ (n : ℕ). take n (x ∷ xs)) (next i) ∙ ap (λ (l : List Stored). x ∷ l) (get_more xs i s is)
  where
    next : (n : ℕ) → suc n + 1 ≡ suc (n + 1)
    next n = omega arith

pub entries_more : (cell : List Stored) (i : ℕ) (entry : VolEntry) (entries : List VolEntry) → entry_at cell i ≡ Some entry → entries ≡ map entry_of_stored (take i cell) → entries ++ entry ∷ [] ≡ map entry_of_stored (take (i + 1) cell)
entries_more cell i entry entries is so_far = found (slice_get cell i) refl is
  where
    found : (o : Option Stored) → slice_get cell i ≡ o → entry_of o ≡ Some entry → entries ++ entry ∷ [] ≡ map entry_of_stored (take (i + 1) cell)
    found None there e = absurd (let f : None ≡ Some entry = e in cc)
    found (Some s) there e =
        let f : Some (entry_of_stored s) ≡ Some entry = e in
        let same : entry_of_stored s ≡ entry = cc in
        ap (λ (l : List VolEntry). l ++ entry ∷ []) so_far
        ∙ ap (λ (x : VolEntry). map entry_of_stored (take i cell) ++ x ∷ []) (sym same)
        ∙ sym (ap (map entry_of_stored) (get_more cell i s there) ∙ map-append entry_of_stored (take i cell) (s ∷ []))

-- ---- places

pub places_within : (such : VolEntry → Bool) (cell : List VolEntry) (at top : ℕ) → at + length cell ≤ top → All (λ place. place < top) (places_from such at cell)
places_within such [] at top low = All-nil (λ (p : ℕ). p < top)
places_within such (v ∷ cell) at top low =
    let rest : All (λ place. place < top) (places_from such (at + 1) cell) = places_within such cell (at + 1) top (omega (arith, low)) in
    let here : at < top = omega (arith, low) in
    elim (cases_Bool (such v)) [
      | inl hit ↦ rw hit (All-cons (λ (p : ℕ). p < top) at (places_from such (at + 1) cell) here rest)
      | inr miss ↦ rw miss rest
    ]

pub places_few : (such : VolEntry → Bool) (cell : List VolEntry) (at : ℕ) → length (places_from such at cell) ≤ length cell
places_few such [] at = omega arith
places_few such (v ∷ cell) at =
    let rest : length (places_from such (at + 1) cell) ≤ length cell = places_few such cell (at + 1) in
    elim (cases_Bool (such v)) [
      | inl hit ↦ rw hit (omega (arith, rest))
      | inr miss ↦ rw miss (omega (arith, rest))
    ]

pub expansion_within : (entries : List SetEntry) (cell : List VolEntry) → All (λ place. place < length cell) (expansion entries cell)
unfolding expansion
expansion_within entries cell = places_within (some_suits entries) cell 0 (length cell) (omega arith)

pub expansion_few : (entries : List SetEntry) (cell : List VolEntry) → length (expansion entries cell) ≤ length cell
unfolding expansion
expansion_few entries cell = places_few (some_suits entries) cell 0

-- ---- good volumes

none_some : {X : Type 0} (x : X) → Some x ≡ None → ⊥
none_some x e = cc

by_image : (image : Image) (name : List ℕ) (rest : Option (List ℕ)) → bad_by name (state_of image) rest ≡ None → (is_good_image image ≡ true) × (rest ≡ None)
by_image (Good volume) name rest is = (refl, is)
by_image (Bad at) name rest is = absurd (none_some _ is)

get_mapped : (cell : List Stored) (i : ℕ) → slice_get (map entry_of_stored cell) i ≡ entry_of (slice_get cell i)
get_mapped [] i = refl
get_mapped (s ∷ cell) zero = refl
get_mapped (s ∷ cell) (suc i) = get_mapped cell i

pub get_entry : (cell : List Stored) (i : ℕ) → slice_get (map entry_of_stored cell) i ≡ entry_at cell i
get_entry cell i = get_mapped cell i

is_there : (cell : List Stored) (i : ℕ) → i < length cell → slice_get cell i ≡ None → ⊥
is_there [] i within is = omega (arith, within)
is_there (s ∷ cell) zero within is = none_some s is
is_there (s ∷ cell) (suc i) within is = is_there cell i (omega (arith, within)) is

good_then : (cell : List Stored) (place : ℕ) (rest : Option (List ℕ)) (o : Option Stored) → slice_get cell place ≡ o → place < length cell → bad_or (entry_of o) rest ≡ None → (is_good o ≡ true) × (rest ≡ None)
good_then cell place rest None at within is = absurd (is_there cell place within at)
good_then cell place rest (Some s) at within is = by_image s.image s.name rest is

abbrev pub IsGoodAt : List Stored → ℕ → Type 0
IsGoodAt cell place = IsTrue (is_good (slice_get cell place))

-- Where no bad image is found at some places, each has a good one.
pub all_good : (cell : List Stored) (places : List ℕ) → All (λ place. place < length cell) places → first_bad (map entry_of_stored cell) places ≡ None → All (IsGoodAt cell) places
all_good cell [] within is = All-nil (IsGoodAt cell)
all_good cell (place ∷ places) within is =
    let here : bad_or (entry_of (slice_get cell place)) (first_bad (map entry_of_stored cell) places) ≡ None = subst (λ (o : Option VolEntry). bad_or o (first_bad (map entry_of_stored cell) places) ≡ None) (get_mapped cell place) is in
    let good : (is_good (slice_get cell place) ≡ true) × (first_bad (map entry_of_stored cell) places ≡ None) = good_then cell place (first_bad (map entry_of_stored cell) places) (slice_get cell place) refl (All-head (λ (p : ℕ). p < length cell) place places within) here in
    All-cons (IsGoodAt cell) place places good.0 (all_good cell places (All-tail (λ (p : ℕ). p < length cell) place places within) good.1)

-- ---- the first bad image

bad_found : (name text : List ℕ) (state : EntryState) (rest : Option (List ℕ)) → bad_by name state None ≡ Some text → bad_by name state rest ≡ Some text
bad_found name text (state.Good id kind latest) rest is = absurd (none_some text (sym is))
bad_found name text (state.Bad at) rest is = is

bad_found_in : (o : Option VolEntry) (text : List ℕ) (rest : Option (List ℕ)) → bad_or o None ≡ Some text → bad_or o rest ≡ Some text
bad_found_in None text rest is = absurd (none_some text (sym is))
bad_found_in (Some e) text rest is = bad_found e.name text e.state rest is

good_found : (name : List ℕ) (state : EntryState) (rest : Option (List ℕ)) → bad_by name state None ≡ None → bad_by name state rest ≡ rest
good_found name (state.Good id kind latest) rest is = refl
good_found name (state.Bad at) rest is = absurd (none_some _ is)

good_found_in : (o : Option VolEntry) (rest : Option (List ℕ)) → bad_or o None ≡ None → bad_or o rest ≡ rest
good_found_in None rest is = refl
good_found_in (Some e) rest is = good_found e.name e.state rest is

pub first_found : (cell : List VolEntry) (places : List ℕ) (i : ℕ) (text : List ℕ) → i < length places → bad_or (slice_get cell (get_or places i 0)) None ≡ Some text → first_bad cell places ≡ first_bad cell (drop i places) → Some text ≡ first_bad cell places
first_found cell places i text within found so_far =
    sym (so_far ∙ ap (first_bad cell) (drop-cons places i 0 within) ∙ bad_found_in (slice_get cell (get_or places i 0)) text (first_bad cell (drop (suc i) places)) found)

pub first_passed : (cell : List VolEntry) (places : List ℕ) (i : ℕ) → i < length places → bad_or (slice_get cell (get_or places i 0)) None ≡ None → first_bad cell places ≡ first_bad cell (drop i places) → first_bad cell places ≡ first_bad cell (drop (i + 1) places)
first_passed cell places i within none so_far =
    so_far ∙ ap (first_bad cell) (drop-cons places i 0 within) ∙ good_found_in (slice_get cell (get_or places i 0)) (first_bad cell (drop (suc i) places)) none ∙ ap (λ (n : ℕ). first_bad cell (drop n places)) (one_on i)
  where
    one_on : (n : ℕ) → suc n ≡ n + 1
    one_on n = omega arith

pub not_some : (o : Option (List ℕ)) → is_some o ≡ false → o ≡ None
not_some None is = refl
not_some (Some text) is = absurd (false≢true (sym is))

-- ---- what is told of a volume

pub line_is : (parent : Option DumpRecordFields) (cell : List Stored) (time place : ℕ) (e : VolEntry) (c : Taken) → slice_get (map entry_of_stored cell) place ≡ Some e → clone_at cell place time ≡ Some c → line_at parent cell time place ≡ would_volume_line e.name (from_of parent e.name c.born)
line_is parent cell time place e c entry clone =
    let there : entry_at cell place ≡ Some e = sym (get_mapped cell place) ∙ entry in
    λ i. volume_line parent (there i) (clone i)
