-- The records of tapes that are kept in a list.
use Rattle.std.proofs.Common.{◌≡◌, ◌≢◌, inl, inr, ℕ, zero, suc, ◌<◌, ◌≤◌, ◌==◌, if◌then◌else◌, List, [], ◌∷◌, ◌++◌, length, take, get_or, Vec, Some, None, slice_get, refl, sym, ◌∙◌, ap, subst, arith, slice_set}
use Rattle.std.specs.declared.alloc.Global.{Global}
use Rattle.std.proofs.lemmas.Bool.{cases_eq}
use Rattle.std.proofs.lemmas.Bool.Decides.{nat_tests}
use Rattle.plant_core.specs.declared.record.Kind.{Kind}
use Rattle.plant_core.specs.declared.stored.Stored.{Stored}
use Rattle.plant_core.specs.Records.{Record, Shows, ShowsFirst}
use Rattle.plant_core.specs.Tapes.{record_of, records_in, records_at}

abbrev Tapes : Type 0
Tapes = List (Vec Stored Global)

-- one tape
pub records_in-length : (ss : List Stored) → length (records_in ss) ≡ length ss
records_in-length [] = refl
records_in-length (s ∷ ss) = omega (arith, records_in-length ss)

pub records_in-push : (ss : List Stored) (s : Stored) → records_in (ss ++ s ∷ []) ≡ records_in ss ++ record_of s ∷ []
records_in-push [] s = refl
records_in-push (x ∷ ss) s = ap (λ (l : List Record). record_of x ∷ l) (records_in-push ss s)

pub records_in-take : (n : ℕ) (ss : List Stored) → records_in (take n ss) ≡ take n (records_in ss)
records_in-take zero ss = refl
records_in-take (suc n) [] = refl
records_in-take (suc n) (s ∷ ss) = ap (λ (l : List Record). record_of s ∷ l) (records_in-take n ss)

pub record_at : (ss : List Stored) (i : ℕ) (s : Stored) → i < length ss → s ≡ get_or ss i s → slice_get (records_in ss) i ≡ Some (record_of s)
record_at [] i s below is = absurd (omega arith)
record_at (x ∷ ss) zero s below is = ap (λ (y : Stored). Some (record_of y)) (sym is)
record_at (x ∷ ss) (suc i) s below is = record_at ss i s (omega arith) is

-- a place in the list
pub records_at_at : (ts : Tapes) (k : ℕ) (v : Vec Stored Global) → k < length ts → v ≡ get_or ts k v → records_at ts k ≡ records_in v.items
records_at_at [] k v below is = absurd (omega arith)
records_at_at (w ∷ ts) zero v below is = ap (λ (x : Vec Stored Global). records_in x.items) (sym is)
records_at_at (w ∷ ts) (suc k) v below is = records_at_at ts k v (omega arith) is

pub records_at_past : (ts : Tapes) (k : ℕ) → length ts ≤ k → records_at ts k ≡ []
records_at_past [] k past = refl
records_at_past (w ∷ ts) zero past = absurd (omega arith)
records_at_past (w ∷ ts) (suc k) past = records_at_past ts k (omega arith)

pub records_at-set_same : (ts : Tapes) (k : ℕ) (v : Vec Stored Global) → k < length ts → records_at (slice_set ts k v) k ≡ records_in v.items
records_at-set_same [] k v below = absurd (omega arith)
records_at-set_same (w ∷ ts) zero v below = refl
records_at-set_same (w ∷ ts) (suc k) v below = records_at-set_same ts k v (omega arith)

pub records_at-set_other : (ts : Tapes) (k : ℕ) (v : Vec Stored Global) (j : ℕ) → j ≢ k → records_at (slice_set ts k v) j ≡ records_at ts j
records_at-set_other [] k v j other = refl
records_at-set_other (w ∷ ts) zero v zero other = absurd (other refl)
records_at-set_other (w ∷ ts) zero v (suc j) other = refl
records_at-set_other (w ∷ ts) (suc k) v zero other = refl
records_at-set_other (w ∷ ts) (suc k) v (suc j) other = records_at-set_other ts k v j (λ same. other (ap suc same))

-- one tape becomes this
pub records_at_set : (ts : Tapes) (k : ℕ) (v : Vec Stored Global) (f : List Record → List Record) (j : ℕ) → k < length ts → records_in v.items ≡ f (records_at ts k)
    → records_at (slice_set ts k v) j ≡ (if j == k then f (records_at ts j) else records_at ts j)
records_at_set ts k v f j below is = elim (cases_eq j k) [
  | inl same ↦
      let left : records_at (slice_set ts k v) j ≡ f (records_at ts j) = subst (λ (i : ℕ). records_at (slice_set ts k v) i ≡ f (records_at ts i)) (sym same) (records_at-set_same ts k v below ∙ is) in
      let right : (if j == k then f (records_at ts j) else records_at ts j) ≡ f (records_at ts j) = grind (arith, nat_tests) in
      left ∙ sym right
  | inr other ↦
      let right : (if j == k then f (records_at ts j) else records_at ts j) ≡ records_at ts j = grind (arith, nat_tests) in
      records_at-set_other ts k v j other ∙ sym right
]

pub records_at_set_back : (ts : Tapes) (k : ℕ) (v : Vec Stored Global) (j : ℕ) → k < length ts → records_in v.items ≡ records_at ts k → records_at (slice_set ts k v) j ≡ records_at ts j
records_at_set_back ts k v j below is = elim (cases_eq j k) [
  | inl same ↦ subst (λ (i : ℕ). records_at (slice_set ts k v) i ≡ records_at ts i) (sym same) (records_at-set_same ts k v below ∙ is)
  | inr other ↦ records_at-set_other ts k v j other
]

-- one blank tape more
pub records_at_push_blank : (ts : Tapes) (v : Vec Stored Global) (k : ℕ) → v.items ≡ [] → records_at (ts ++ v ∷ []) k ≡ records_at ts k
records_at_push_blank [] v zero blank = ap records_in blank
records_at_push_blank [] v (suc k) blank = refl
records_at_push_blank (w ∷ ts) v zero blank = refl
records_at_push_blank (w ∷ ts) v (suc k) blank = records_at_push_blank ts v k blank

-- the first record
pub first_shown : (ss : List Stored) (s : Stored) (kind : Kind) (into : List ℕ) → Some s ≡ slice_get ss 0 → Shows (record_of s) kind into → ShowsFirst (records_in ss) (Some kind) into
first_shown [] s kind into is shown = absurd (cc)
first_shown (x ∷ ss) s kind into is shown =
    let same : s ≡ x = cc in
    (kind, (refl, subst (λ (y : Stored). Shows (record_of y) kind into) same shown))

pub none_shown : (ss : List Stored) (into : List ℕ) → None ≡ slice_get ss 0 → ShowsFirst (records_in ss) None into
none_shown [] into is = refl
none_shown (x ∷ ss) into is = absurd (cc)
