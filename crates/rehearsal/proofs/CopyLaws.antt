-- Lists of vnodes one beside another, and what stands under a name of a cell's list.
use Rattle.std.proofs.Common.{◌≡◌, ℕ, zero, suc, ◌+◌, ◌<◌, ◌≤◌, Bool, true, false, List, [], ◌∷◌, length, take, get_or, find, slice_get, Option, Some, None, refl, sym, ◌∙◌, ap, arith}
use Rattle.std.specs.Prelude.{◌&&◌, cond}
use Rattle.std.specs.Cmp.Lexicographic.{pointwise}
use Rattle.std.proofs.lemmas.List.{take_all}
use Rattle.bk_text.specs.Blanks.{is_same_text}
use Rattle.vnode_model.specs.declared.listed.VolEntry.{VolEntry}
use Rattle.vnode_model.specs.declared.listed.EntryState.TheVariants as state
use Rattle.cell_core.specs.declared.stored.Stored.{Stored}
use Rattle.cell_core.specs.declared.stored.Image.{Image}
use Rattle.cell_core.specs.declared.stored.Image.TheVariants.{Good, Bad}
use Rattle.cell_core.specs.declared.stored.Taken.{Taken}
use Rattle.cell_core.specs.Calls.{entry_of, entry_at, state_of, is_good, is_good_image, clone_of, clone_at}
use Rattle.rehearsal.specs.Copies.{volume_in, volume_of, volume_under, IsPlace}

-- ---- two lists, element by element

both_first : (a b : Bool) → (a && b) ≡ true → a ≡ true
both_first true b is = refl
both_first false b is = is

both_second : (a b : Bool) → (a && b) ≡ true → b ≡ true
both_second true b is = is
both_second false b is = absurd cc

never : (a b : Bool) → b ≡ false → (a && b) ≡ false
never true b is = is
never false b is = refl

module _ {X : Type 0} (same : X → X → Bool) where
  same_next : (xs ys : List X) (i : ℕ) (x y : X) → i < length xs → i < length ys → x ≡ get_or xs i x → y ≡ get_or ys i y → pointwise same (take i xs) (take i ys) ≡ true → same x y ≡ true
      → pointwise same (take (suc i) xs) (take (suc i) ys) ≡ true
  same_next [] ys i x y lt lt2 is is2 so_far here = absurd (omega arith)
  same_next (a ∷ xs) [] i x y lt lt2 is is2 so_far here = absurd (omega arith)
  same_next (a ∷ xs) (b ∷ ys) zero x y lt lt2 is is2 so_far here = ap (λ (z : Bool). z && true) ((λ j. same (sym is j) (sym is2 j)) ∙ here)
  same_next (a ∷ xs) (b ∷ ys) (suc i) x y lt lt2 is is2 so_far here =
      let first = both_first (same a b) (pointwise same (take i xs) (take i ys)) so_far in
      let rest = both_second (same a b) (pointwise same (take i xs) (take i ys)) so_far in
      ap (λ (z : Bool). z && pointwise same (take (suc i) xs) (take (suc i) ys)) first ∙ same_next xs ys i x y (omega arith) (omega arith) is is2 rest here

  pub same_more : (xs ys : List X) (i : ℕ) (x y : X) → i < length xs → i < length ys → x ≡ get_or xs i x → y ≡ get_or ys i y → pointwise same (take i xs) (take i ys) ≡ true → same x y ≡ true
      → pointwise same (take (i + 1) xs) (take (i + 1) ys) ≡ true
  same_more xs ys i x y lt lt2 is is2 so_far here = (let e : i + 1 ≡ suc i = omega arith in ap (λ (n : ℕ). pointwise same (take n xs) (take n ys)) e ∙ same_next xs ys i x y lt lt2 is is2 so_far here)

  pub same_not : (xs ys : List X) (i : ℕ) (x y : X) → i < length xs → i < length ys → x ≡ get_or xs i x → y ≡ get_or ys i y → same x y ≡ false → pointwise same xs ys ≡ false
  same_not [] ys i x y lt lt2 is is2 here = absurd (omega arith)
  same_not (a ∷ xs) [] i x y lt lt2 is is2 here = absurd (omega arith)
  same_not (a ∷ xs) (b ∷ ys) zero x y lt lt2 is is2 here = ap (λ (z : Bool). z && pointwise same xs ys) ((λ j. same (sym is j) (sym is2 j)) ∙ here)
  same_not (a ∷ xs) (b ∷ ys) (suc i) x y lt lt2 is is2 here = never (same a b) (pointwise same xs ys) (same_not xs ys i x y (omega arith) (omega arith) is is2 here)

-- ---- the first that does

still_none : {X : Type 0} (b : Bool) (y : X) (front whole : Option X) → cond b (Some y) front ≡ None → (front ≡ None → whole ≡ None) → cond b (Some y) whole ≡ None
still_none true y front whole none rest = absurd cc
still_none false y front whole none rest = rest none

then_some : {X : Type 0} (b : Bool) (x y : X) (front whole : Option X) → cond b (Some y) front ≡ None → (front ≡ None → whole ≡ Some x) → cond b (Some y) whole ≡ Some x
then_some true x y front whole none rest = absurd cc
then_some false x y front whole none rest = rest none

module _ {X : Type 0} (test : X → Bool) where
  pub found_at : (xs : List X) (i : ℕ) (x : X) → find test (take i xs) ≡ None → slice_get xs i ≡ Some x → test x ≡ true → find test xs ≡ Some x
  found_at [] i x none at is = absurd cc
  found_at (y ∷ ys) zero x none at is = (let same : y ≡ x = cc in ap (λ (b : Bool). cond b (Some y) (find test ys)) (ap test same ∙ is) ∙ at)
  found_at (y ∷ ys) (suc i) x none at is = then_some (test y) x y (find test (take i ys)) (find test ys) none (λ rest. found_at ys i x rest at is)

  none_next : (xs : List X) (i : ℕ) (x : X) → find test (take i xs) ≡ None → slice_get xs i ≡ Some x → test x ≡ false → find test (take (suc i) xs) ≡ None
  none_next [] i x none at is = absurd cc
  none_next (y ∷ ys) zero x none at is = (let same : y ≡ x = cc in ap (λ (b : Bool). cond b (Some y) None) (ap test same ∙ is))
  none_next (y ∷ ys) (suc i) x none at is = still_none (test y) y (find test (take i ys)) (find test (take (suc i) ys)) none (λ rest. none_next ys i x rest at is)

  pub none_more : (xs : List X) (i : ℕ) (x : X) → find test (take i xs) ≡ None → slice_get xs i ≡ Some x → test x ≡ false → find test (take (i + 1) xs) ≡ None
  none_more xs i x none at is = (let e : i + 1 ≡ suc i = omega arith in ap (λ (n : ℕ). find test (take n xs)) e ∙ none_next xs i x none at is)

-- ---- what an entry tells of what stands there

-- what stands at a place of which an entry tells
pub record Told (cell : List Stored) (i : ℕ) (entry : VolEntry) : Type 0 where
  pub stored : Stored
  pub at : slice_get cell i ≡ Some stored
  pub name : entry.name ≡ stored.name
  pub state : entry.state ≡ state_of stored.image

entry_told : (s : Option Stored) (entry : VolEntry) → entry_of s ≡ Some entry → (stored : Stored) × (s ≡ Some stored) × (entry.name ≡ stored.name) × (entry.state ≡ state_of stored.image)
entry_told None entry is = absurd cc
entry_told (Some s) entry is = (s, refl, cc, cc)

pub told_at : (cell : List Stored) (i : ℕ) (entry : VolEntry) → entry_at cell i ≡ Some entry → Told cell i entry
told_at cell i entry is = (let t = entry_told (slice_get cell i) entry is in record { stored = t.0; at = t.1; name = t.2; state = t.3 })

good_image : (image : Image) (id kind latest : ℕ) → state_of image ≡ state.Good id kind latest → is_good_image image ≡ true
good_image (Good volume) id kind latest is = refl
good_image (Bad at) id kind latest is = absurd cc

bad_image : (image : Image) (at : ℕ) → state_of image ≡ state.Bad at → volume_in image ≡ None
bad_image (Good volume) at is = absurd cc
bad_image (Bad place) at is = refl

module _ (name : List ℕ) (cell : List Stored) (i : ℕ) (entry : VolEntry) (is : entry_at cell i ≡ Some entry) where
  abbrev pub test : Stored → Bool
  test s = is_same_text s.name name

  pub told : Told cell i entry
  told = told_at cell i entry is

  pub one_found : find (λ (s : Stored). is_same_text s.name name) (take i cell) ≡ None → is_same_text entry.name name ≡ true → find (λ (s : Stored). is_same_text s.name name) cell ≡ Some told.stored
  one_found none same = found_at test cell i told.stored none told.at (ap (λ (n : List ℕ). is_same_text n name) (sym told.name) ∙ same)

  pub one_less : find (λ (s : Stored). is_same_text s.name name) (take i cell) ≡ None → is_same_text entry.name name ≡ false → find (λ (s : Stored). is_same_text s.name name) (take (i + 1) cell) ≡ None
  one_less none other = none_more test cell i told.stored none told.at (ap (λ (n : List ℕ). is_same_text n name) (sym told.name) ∙ other)

  pub stands_good : (id kind latest : ℕ) → find (λ (s : Stored). is_same_text s.name name) (take i cell) ≡ None → is_same_text entry.name name ≡ true → entry.state ≡ state.Good id kind latest → IsPlace name cell i
  stands_good id kind latest none same good = record { stored = told.stored; at = told.at; good = good_image told.stored.image id kind latest (sym told.state ∙ good); found = one_found none same }

  pub stands_bad : (at : ℕ) → find (λ (s : Stored). is_same_text s.name name) (take i cell) ≡ None → is_same_text entry.name name ≡ true → entry.state ≡ state.Bad at → volume_under name cell ≡ None
  stands_bad at none same bad = ap volume_of (one_found none same) ∙ bad_image told.stored.image at (sym told.state ∙ bad)

pub stands_nowhere : (name : List ℕ) (cell : List Stored) (i : ℕ) → length cell ≤ i → find (λ (s : Stored). is_same_text s.name name) (take i cell) ≡ None → volume_under name cell ≡ None
stands_nowhere name cell i past none = ap volume_of (ap (find (λ (s : Stored). is_same_text s.name name)) (sym (take_all i cell past)) ∙ none)

-- ---- the volume that is taken there

pub place_good : (name : List ℕ) (cell : List Stored) (i : ℕ) → IsPlace name cell i → is_good (slice_get cell i) ≡ true
place_good name cell i place = ap is_good place.at ∙ place.good

clone_volume : (cell : List Stored) (image : Image) (taken : Taken) → clone_of cell (Some (record { name = []; server = []; partition = []; image = image })) 0 ≡ Some taken → volume_in image ≡ Some taken.volume
clone_volume cell (Good volume) taken is = cc
clone_volume cell (Bad at) taken is = absurd cc

pub taken_under : (name : List ℕ) (cell : List Stored) (i : ℕ) (taken : Taken) → IsPlace name cell i → clone_at cell i 0 ≡ Some taken → volume_under name cell ≡ Some taken.volume
taken_under name cell i taken place is = ap volume_of place.found ∙ clone_volume cell place.stored.image taken (ap (λ (s : Option Stored). clone_of cell s 0) (sym place.at) ∙ is)
