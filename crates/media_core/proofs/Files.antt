-- The bytes of files that are kept in a list.
use Rattle.std.proofs.Common.{◌≡◌, ◌≢◌, inl, inr, ℕ, zero, suc, min, ◌<◌, ◌≤◌, ◌==◌, if◌then◌else◌, List, [], ◌∷◌, ◌++◌, length, take, ◌+◌, get_or, Vec, refl, sym, ◌∙◌, ap, subst, arith, slice_set}
use Rattle.std.specs.declared.alloc.Global.{Global}
use Rattle.std.proofs.lemmas.List.{take_more, length-take-le}
use Rattle.std.proofs.lemmas.Bool.{cases_eq}
use Rattle.std.proofs.lemmas.Bool.Decides.{nat_tests}
use Rattle.media_core.specs.Events.{file_bytes}
use Rattle.media_core.specs.Media.{written}

abbrev Files : Type 0
Files = List (Vec ℕ Global)

pub file_bytes_at : (fs : Files) (f : ℕ) (v : Vec ℕ Global) → f < length fs → v ≡ get_or fs f v → file_bytes fs f ≡ v.items
file_bytes_at [] f v below is = absurd (omega arith)
file_bytes_at (w ∷ fs) zero v below is = ap (λ (x : Vec ℕ Global). x.items) (sym is)
file_bytes_at (w ∷ fs) (suc f) v below is = file_bytes_at fs f v (omega arith) is

pub file_bytes-set_same : (fs : Files) (f : ℕ) (v : Vec ℕ Global) → f < length fs → file_bytes (slice_set fs f v) f ≡ v.items
file_bytes-set_same [] f v below = absurd (omega arith)
file_bytes-set_same (w ∷ fs) zero v below = refl
file_bytes-set_same (w ∷ fs) (suc f) v below = file_bytes-set_same fs f v (omega arith)

pub file_bytes-set_other : (fs : Files) (f : ℕ) (v : Vec ℕ Global) (k : ℕ) → k ≢ f → file_bytes (slice_set fs f v) k ≡ file_bytes fs k
file_bytes-set_other [] f v k other = refl
file_bytes-set_other (w ∷ fs) zero v zero other = absurd (other refl)
file_bytes-set_other (w ∷ fs) zero v (suc k) other = refl
file_bytes-set_other (w ∷ fs) (suc f) v zero other = refl
file_bytes-set_other (w ∷ fs) (suc f) v (suc k) other = file_bytes-set_other fs f v k (λ same. other (ap suc same))

if_same : (k f : ℕ) (a b : List ℕ) → k ≡ f → (if k == f then a else b) ≡ a
if_same k f a b same = grind (arith, nat_tests)

if_other : (k f : ℕ) (a b : List ℕ) → k ≢ f → (if k == f then a else b) ≡ b
if_other k f a b other = grind (arith, nat_tests)

-- one file is put in the place of another
pub file_bytes_set : (fs : Files) (f : ℕ) (v : Vec ℕ Global) (g : List ℕ → List ℕ) (k : ℕ) → f < length fs → v.items ≡ g (file_bytes fs f) → file_bytes (slice_set fs f v) k ≡ (if k == f then g (file_bytes fs k) else file_bytes fs k)
file_bytes_set fs f v g k below is = elim (cases_eq k f) [
  | inl same ↦ subst (λ (j : ℕ). file_bytes (slice_set fs f v) j ≡ (if j == f then g (file_bytes fs j) else file_bytes fs j)) (sym same) (file_bytes-set_same fs f v below ∙ is ∙ sym (if_same f f (g (file_bytes fs f)) (file_bytes fs f) refl))
  | inr other ↦ file_bytes-set_other fs f v k other ∙ sym (if_other k f (g (file_bytes fs k)) (file_bytes fs k) other)
]

pub file_bytes_set_back : (fs : Files) (f : ℕ) (v : Vec ℕ Global) (k : ℕ) → f < length fs → v.items ≡ file_bytes fs f → file_bytes (slice_set fs f v) k ≡ file_bytes fs k
file_bytes_set_back fs f v k below is = elim (cases_eq k f) [
  | inl same ↦ subst (λ (j : ℕ). file_bytes (slice_set fs f v) j ≡ file_bytes fs j) (sym same) (file_bytes-set_same fs f v below ∙ is)
  | inr other ↦ file_bytes-set_other fs f v k other
]

pub file_bytes-push_at : (fs : Files) (v : Vec ℕ Global) (n : ℕ) → n ≡ length fs → file_bytes (fs ++ v ∷ []) n ≡ v.items
file_bytes-push_at [] v zero is = refl
file_bytes-push_at [] v (suc n) is = absurd (omega arith)
file_bytes-push_at (w ∷ fs) v zero is = absurd (omega arith)
file_bytes-push_at (w ∷ fs) v (suc n) is = file_bytes-push_at fs v n (omega arith)

pub file_bytes-push_other : (fs : Files) (v : Vec ℕ Global) (k : ℕ) → k ≢ length fs → file_bytes (fs ++ v ∷ []) k ≡ file_bytes fs k
file_bytes-push_other [] v zero other = absurd (other refl)
file_bytes-push_other [] v (suc k) other = refl
file_bytes-push_other (w ∷ fs) v zero other = refl
file_bytes-push_other (w ∷ fs) v (suc k) other = file_bytes-push_other fs v k (λ same. other (ap suc same))

pub file_bytes_past : (fs : Files) (k : ℕ) → length fs ≤ k → file_bytes fs k ≡ []
file_bytes_past [] k past = refl
file_bytes_past (w ∷ fs) zero past = absurd (omega arith)
file_bytes_past (w ∷ fs) (suc k) past = file_bytes_past fs k (omega arith)

-- an empty file more
pub file_bytes_push_empty : (fs : Files) (v : Vec ℕ Global) (k : ℕ) → v.items ≡ [] → file_bytes (fs ++ v ∷ []) k ≡ file_bytes fs k
file_bytes_push_empty fs v k none = elim (cases_eq k (length fs)) [
  | inl same ↦ file_bytes-push_at fs v k same ∙ none ∙ sym (file_bytes_past fs k (omega arith))
  | inr other ↦ file_bytes-push_other fs v k other
]

-- the same file more on both sides
pub file_bytes_push_same : (fs gs : Files) (v w : Vec ℕ Global) → length fs ≡ length gs → ((k : ℕ) → file_bytes fs k ≡ file_bytes gs k) → v.items ≡ w.items → (k : ℕ) → file_bytes (fs ++ v ∷ []) k ≡ file_bytes (gs ++ w ∷ []) k
file_bytes_push_same fs gs v w size same is k = elim (cases_eq k (length fs)) [
  | inl here ↦ file_bytes-push_at fs v k here ∙ is ∙ sym (file_bytes-push_at gs w k (here ∙ size))
  | inr other ↦ file_bytes-push_other fs v k other ∙ same k ∙ sym (file_bytes-push_other gs w k (λ there. other (there ∙ sym size)))
]

-- one file more is copied
pub file_bytes_copied : (files copy copy' : Files) (i : ℕ) (file v : Vec ℕ Global) → i < length files → file ≡ get_or files i file → length copy ≡ i → ((k : ℕ) → file_bytes copy k ≡ file_bytes (take i files) k)
    → v.items ≡ file.items → copy' ≡ copy ++ v ∷ [] → (k : ℕ) → file_bytes copy' k ≡ file_bytes (take (i + 1) files) k
file_bytes_copied files copy copy' i file v below is size same items more k =
    ap (λ (l : Files). file_bytes l k) more
    ∙ file_bytes_push_same copy (take i files) v (get_or files i file) (size ∙ sym (length-take-le i files (omega arith))) same (items ∙ ap (λ (w : Vec ℕ Global). w.items) is) k
    ∙ ap (λ (l : Files). file_bytes l k) (sym (take_more files i file below))

-- a write that is played again
pub replayed : (files room new : Files) (f at place : ℕ) (bytes : List ℕ) → ((k : ℕ) → file_bytes room k ≡ file_bytes files k) → place ≡ min at (length (file_bytes files f))
    → ((k : ℕ) → file_bytes new k ≡ (if k == f then written place bytes (file_bytes room k) else file_bytes room k))
    → (k : ℕ) → file_bytes new k ≡ (if k == f then written (min at (length (file_bytes files k))) bytes (file_bytes files k) else file_bytes files k)
replayed files room new f at place bytes same is changed k = changed k ∙ elim (cases_eq k f) [
  | inl here ↦
      let p : place ≡ min at (length (file_bytes files k)) = is ∙ ap (λ (j : ℕ). min at (length (file_bytes files j))) (sym here) in
      (λ i. if k == f then written (p i) bytes (same k i) else same k i)
  | inr other ↦ if_other k f (written place bytes (file_bytes room k)) (file_bytes room k) other ∙ same k ∙ sym (if_other k f (written (min at (length (file_bytes files k))) bytes (file_bytes files k)) (file_bytes files k) other)
]

-- the files in front
pub file_bytes-take : (fs : Files) (n k : ℕ) → k < n → file_bytes (take n fs) k ≡ file_bytes fs k
file_bytes-take fs zero k below = absurd (omega arith)
file_bytes-take [] (suc n) k below = refl
file_bytes-take (v ∷ fs) (suc n) zero below = refl
file_bytes-take (v ∷ fs) (suc n) (suc k) below = file_bytes-take fs n k (omega arith)
