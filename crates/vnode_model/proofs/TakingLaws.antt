-- Vnodes taken out of a base's in order.
use Rattle.std.proofs.Common.{◌≡◌, ℕ, suc, ◌%◌, ◌⊎◌, true, false, Some, None, List, [], ◌∷◌, map, drop, refl, sym, ap, subst, ◌∙◌, inl, inr, arith}
use Rattle.std.specs.Prelude.{All, AllPairs, find, ◌==◌}
use Rattle.std.specs.List.{filter_map}
use Rattle.std.proofs.lemmas.Bool.{ne_eqb, eqb-true, and_left, and_parts, cond-false, cond-true, cases_order}
use Rattle.std.proofs.lemmas.List.Elements.{All-head, All-tail, All-weaker, All-from_get_or}
use Rattle.vnode_model.specs.declared.vnodes.Vnode.{Vnode}
use Rattle.vnode_model.specs.declared.increments.Entry.{Entry}
use Rattle.vnode_model.specs.declared.increments.Entry.TheVariants.{Whole, Kept}
use Rattle.vnode_model.specs.Limits.{StandsBefore, number_of}
use Rattle.vnode_model.specs.Increments.{is_named, vnode_for, first_lacking}
use Rattle.vnode_model.specs.Taking.{AreOrdered, BeginsBefore, begins_named, SameAt, SameBehind}
use Rattle.vnode_model.proofs.FollowLaws.{before_trans}

-- ---- the order of numbers

pub before_not_same : (m n : ℕ) → StandsBefore m n → m ≡ n → ⊥
before_not_same m n (inl h) e = omega (arith, h.0, h.1, ap (λ (x : ℕ). x % 2) e)
before_not_same m n (inr h) e = omega (arith, h.1, e)

before_either : (m n : ℕ) → StandsBefore m n ⊎ ((m ≡ n) ⊎ StandsBefore n m)
before_either m n = elim (cases_order (m % 2) (n % 2)) [
  | inl same ↦ elim (cases_order m n) [
    | inl e ↦ inr (inl e)
    | inr o ↦ elim o [ inl lt ↦ inl (inr (same, lt)) | inr lt ↦ inr (inr (inr (sym same, lt))) ]
  ]
  | inr o ↦ elim o [
    | inl lt ↦ inr (inr (inl (omega (arith, lt), omega (arith, lt))))
    | inr lt ↦ inl (inl (omega (arith, lt), omega (arith, lt)))
  ]
]

-- ---- ordered lists

pub pairs_first : (n : ℕ) (ns : List ℕ) → AllPairs StandsBefore (n ∷ ns) → All (λ m. StandsBefore n m) ns
pairs_first n ns h = All-from_get_or (λ (m : ℕ). StandsBefore n m) ns 0 (λ i lt. h 0 (suc i) 0 (omega arith) (omega (arith, lt)))

pub pairs_rest : (n : ℕ) (ns : List ℕ) → AllPairs StandsBefore (n ∷ ns) → AllPairs StandsBefore ns
pairs_rest n ns h = λ i j d lt within. h (suc i) (suc j) d (omega (arith, lt)) (omega (arith, within))

-- ---- looking up by number and uniquifier

pub not_named : (v : Vnode) (number uniq : ℕ) → (v.number ≡ number → ⊥) → is_named number uniq v ≡ false
not_named v number uniq not = and_left _ _ (ne_eqb v.number number not)

pub find_further : (v : Vnode) (vs : List Vnode) (number uniq : ℕ) → (v.number ≡ number → ⊥) → find (is_named number uniq) (v ∷ vs) ≡ find (is_named number uniq) vs
find_further v vs number uniq not = cond-false (is_named number uniq v) (Some v) (find (is_named number uniq) vs) (not_named v number uniq not)

pub find_here : (v : Vnode) (vs : List Vnode) (number uniq : ℕ) → is_named number uniq v ≡ true → find (is_named number uniq) (v ∷ vs) ≡ Some v
find_here v vs number uniq is = cond-true (is_named number uniq v) (Some v) (find (is_named number uniq) vs) is

find_none : (vs : List Vnode) (number uniq : ℕ) → All (λ m. StandsBefore number m) (map (λ v. v.number) vs) → find (is_named number uniq) vs ≡ None
find_none [] number uniq h = refl
find_none (v ∷ vs) number uniq h =
    let first : StandsBefore number v.number = All-head (λ m. StandsBefore number m) v.number (map (λ v. v.number) vs) h in
    find_further v vs number uniq (λ e. before_not_same number v.number first (sym e))
    ∙ find_none vs number uniq (All-tail (λ m. StandsBefore number m) v.number (map (λ v. v.number) vs) h)

-- nothing that an ordered list begins with stands before the number, and it doesn't begin with what is looked for
pub find_not : (vs : List Vnode) (number uniq : ℕ) → AreOrdered vs → (BeginsBefore number vs → ⊥) → begins_named number uniq vs ≡ false → find (is_named number uniq) vs ≡ None
find_not [] number uniq ordered front named = refl
find_not (v ∷ vs) number uniq ordered front named =
    let after : All (λ m. StandsBefore v.number m) (map (λ v. v.number) vs) = pairs_first v.number (map (λ v. v.number) vs) ordered in
    cond-false (is_named number uniq v) (Some v) (find (is_named number uniq) vs) named
    ∙ elim (before_either v.number number) [
      | inl before ↦ absurd (front before)
      | inr o ↦ elim o [
        | inl same ↦ find_none vs number uniq (subst (λ (n : ℕ). All (λ m. StandsBefore n m) (map (λ v. v.number) vs)) same after)
        | inr behind ↦ find_none vs number uniq (All-weaker (λ m. StandsBefore v.number m) (λ m. StandsBefore number m) (λ m b. before_trans number v.number m behind b) (map (λ v. v.number) vs) after)
      ]
    ]

-- ---- one vnode less

pub same_at_less : (number : ℕ) (v : Vnode) (vs : List Vnode) → StandsBefore v.number number → SameAt (v ∷ vs) vs number
same_at_less number v vs before = λ uniq. sym (find_further v vs number uniq (before_not_same v.number number before))

pub same_behind_less : (number : ℕ) (v : Vnode) (vs : List Vnode) → StandsBefore v.number number ⊎ (v.number ≡ number) → SameBehind number (v ∷ vs) vs
same_behind_less number v vs (inl before) = λ behind b. same_at_less behind v vs (before_trans v.number number behind before b)
same_behind_less number v vs (inr same) = λ behind b. same_at_less behind v vs (subst (λ (n : ℕ). StandsBefore n behind) (sym same) b)

-- ---- entries that look up the same

same_for : (e : Entry) (old new : List Vnode) → SameAt old new (number_of e) → vnode_for new e ≡ vnode_for old e
same_for (Whole v) old new same = refl
same_for (Kept number uniq) old new same = same uniq

lacking_behind : (number : ℕ) (old new : List Vnode) (es : List Entry) → SameBehind number old new → All (λ m. StandsBefore number m) (map number_of es) → first_lacking new es ≡ first_lacking old es
lacking_behind number old new [] same all = refl
lacking_behind number old new (e ∷ es) same all =
    let here : vnode_for new e ≡ vnode_for old e = same_for e old new (same (number_of e) (All-head (λ m. StandsBefore number m) (number_of e) (map number_of es) all)) in
    let rest : first_lacking new es ≡ first_lacking old es = lacking_behind number old new es same (All-tail (λ m. StandsBefore number m) (number_of e) (map number_of es) all) in
    rw (here, rest) refl

found_behind : (number : ℕ) (old new : List Vnode) (es : List Entry) → SameBehind number old new → All (λ m. StandsBefore number m) (map number_of es) → filter_map (vnode_for new) es ≡ filter_map (vnode_for old) es
found_behind number old new [] same all = refl
found_behind number old new (e ∷ es) same all =
    let here : vnode_for new e ≡ vnode_for old e = same_for e old new (same (number_of e) (All-head (λ m. StandsBefore number m) (number_of e) (map number_of es) all)) in
    let rest : filter_map (vnode_for new) es ≡ filter_map (vnode_for old) es = found_behind number old new es same (All-tail (λ m. StandsBefore number m) (number_of e) (map number_of es) all) in
    rw (here, rest) refl

-- one entry further
module _ (old new : List Vnode) (e : Entry) (es : List Entry) (v : Vnode) (taken : vnode_for old e ≡ Some v) (same : SameBehind (number_of e) old new) (ordered : AllPairs StandsBefore (map number_of (e ∷ es))) where
  pub lacking_further : first_lacking old (e ∷ es) ≡ first_lacking new es
  lacking_further = rw taken (sym (lacking_behind (number_of e) old new es same (pairs_first (number_of e) (map number_of es) ordered)))

  pub found_further : filter_map (vnode_for old) (e ∷ es) ≡ v ∷ filter_map (vnode_for new) es
  found_further = rw taken (ap (λ (x : List Vnode). v ∷ x) (sym (found_behind (number_of e) old new es same (pairs_first (number_of e) (map number_of es) ordered))))

-- the first entry is lacking
pub lacking_here : (old : List Vnode) (e : Entry) (es : List Entry) → vnode_for old e ≡ None → first_lacking old (e ∷ es) ≡ Some e
lacking_here old e es lacks = rw lacks refl

-- ---- a list without its first one

pub ordered_less : (xs ys : List Vnode) → ys ≡ drop 1 xs → AreOrdered xs → AreOrdered ys
ordered_less [] ys is ordered = subst AreOrdered (sym is) ordered
ordered_less (v ∷ vs) ys is ordered = subst AreOrdered (sym is) (pairs_rest v.number (map (λ v. v.number) vs) ordered)

pub skipped_at : (number : ℕ) (xs ys zs : List Vnode) → BeginsBefore number xs → ys ≡ drop 1 xs → SameAt zs xs number → SameAt zs ys number
skipped_at number [] ys zs before is same = absurd before
skipped_at number (v ∷ vs) ys zs before is same = λ uniq. rw is (same_at_less number v vs before uniq ∙ same uniq)

pub skipped_behind : (number : ℕ) (xs ys zs : List Vnode) → BeginsBefore number xs → ys ≡ drop 1 xs → SameBehind number zs xs → SameBehind number zs ys
skipped_behind number [] ys zs before is same = absurd before
skipped_behind number (v ∷ vs) ys zs before is same = λ behind b uniq. rw is (same_behind_less number v vs (inl before) behind b uniq ∙ same behind b uniq)

pub taken_behind : (number uniq : ℕ) (xs ys zs : List Vnode) → begins_named number uniq xs ≡ true → ys ≡ drop 1 xs → SameBehind number zs xs → SameBehind number zs ys
taken_behind number uniq [] ys zs named is same = absurd (cc)
taken_behind number uniq (v ∷ vs) ys zs named is same =
    λ behind b u. rw is (same_behind_less number v vs (inr (eqb-true v.number number (and_parts (v.number == number) (v.uniq == uniq) named).0)) behind b u ∙ same behind b u)
