-- Steps of an assembly over what scans tell of parts.
use Rattle.std.proofs.Common.{◌≡◌, ◌⊎◌, ◌↔◌, ℕ, zero, suc, ◌+◌, ◌-◌, ◌<◌, ◌≤◌, Bool, true, false, Option, Some, None, List, [], ◌∷◌, length, get_or, set, sym, ap, subst, ◌∙◌, arith, inl, inr}
use Rattle.std.specs.Prelude.{slice_get, IfSome}
use Rattle.std.specs.Borrow.{Bor}
use Rattle.std.proofs.lemmas.List.{get_or-set_same, get_or-set_other, get_or_default}
use Rattle.tape_frames.specs.declared.dump_head.DumpHeadFields.{DumpHeadFields}
use Rattle.tape_scan.specs.declared.sections.FragFound.{FragFound}
use Rattle.tape_scan.specs.declared.sections.PartFound.{PartFound}
use Rattle.tape_scan.specs.AssembledSteps.{ToldGoesOn, AreGoneOn, BeginsSo, EndsSo, ToldNext, IsEnding, Completes, Stands, IsFlagged, IsKnown, AreKnownFrom, HasNoNext, seen, IsBelow, IsAbove, IsUpTo, IsGreatestBelow, AreKnownAbove}
use Rattle.tape_scan.proofs.ListLaws.{either, same_or_not}

-- ---- first and last fragments

pub begins_so : (Is : FragFound → Type 0) (fs : List FragFound) (f : FragFound) → Some f ≡ slice_get fs 0 → (Is f → BeginsSo Is fs) × (BeginsSo Is fs → Is f)
begins_so Is [] f at = absurd (cc)
begins_so Is (g ∷ fs) f at = let same : f ≡ g = cc in (subst Is same, subst Is (sym same))

pub none_begins : (Is : FragFound → Type 0) (fs : List FragFound) → None ≡ slice_get fs 0 → BeginsSo Is fs → ⊥
none_begins Is [] at begins = begins
none_begins Is (f ∷ fs) at begins = absurd (cc)

last_so : (Is : FragFound → Type 0) (fs : List FragFound) (f : FragFound) (n : ℕ) → n + 1 ≡ length fs → Some f ≡ slice_get fs n → (Is f → EndsSo Is fs) × (EndsSo Is fs → Is f)
last_so Is [] f n long at = absurd (cc)
last_so Is (g ∷ []) f zero long at = let same : f ≡ g = cc in (subst Is same, subst Is (sym same))
last_so Is (g ∷ []) f (suc n) long at = absurd (cc)
last_so Is (g ∷ h ∷ fs) f zero long at = absurd (omega (arith, long))
last_so Is (g ∷ h ∷ fs) f (suc n) long at = last_so Is (h ∷ fs) f n (omega (arith, long)) at

pub ends_so : (Is : FragFound → Type 0) (fs : List FragFound) (f : FragFound) → Some f ≡ slice_get fs (length fs - 1) → (Is f → EndsSo Is fs) × (EndsSo Is fs → Is f)
ends_so Is [] f at = absurd (cc)
ends_so Is (g ∷ fs) f at = last_so Is (g ∷ fs) f (length (g ∷ fs) - 1) (omega arith) at

in_range : (fs : List FragFound) (n : ℕ) → n < length fs → None ≡ slice_get fs n → ⊥
in_range [] n lt at = absurd (omega (arith, lt))
in_range (f ∷ fs) zero lt at = absurd (cc)
in_range (f ∷ fs) (suc n) lt at = in_range fs n (omega (arith, lt)) at

pub none_ends : (Is : FragFound → Type 0) (fs : List FragFound) → None ≡ slice_get fs (length fs - 1) → EndsSo Is fs → ⊥
none_ends Is [] at ends = ends
none_ends Is (f ∷ fs) at ends = in_range (f ∷ fs) (length (f ∷ fs) - 1) (omega arith) at

pub gone_on : (fs gs : List FragFound) (f g : FragFound) → Some f ≡ slice_get fs (length fs - 1) → Some g ≡ slice_get gs 0 → (ToldGoesOn f g → AreGoneOn fs gs) × (AreGoneOn fs gs → ToldGoesOn f g)
gone_on fs gs f g last first =
    let ends = ends_so (λ (x : FragFound). BeginsSo (λ (y : FragFound). ToldGoesOn x y) gs) fs f last in
    let begins = begins_so (λ (y : FragFound). ToldGoesOn f y) gs g first in
    ((λ goes. ends.0 (begins.0 goes)), (λ goes. begins.1 (ends.1 goes)))

pub not_gone_on : (fs gs : List FragFound) (f : FragFound) → Some f ≡ slice_get fs (length fs - 1) → None ≡ slice_get gs 0 → AreGoneOn fs gs → ⊥
not_gone_on fs gs f last first goes =
    none_begins (λ (y : FragFound). ToldGoesOn f y) gs first ((ends_so (λ (x : FragFound). BeginsSo (λ (y : FragFound). ToldGoesOn x y) gs) fs f last).1 goes)

-- ---- places

pub stands_there : (parts : List (Bor PartFound)) (k : ℕ) (p : Bor PartFound) → k < length parts → p ≡ get_or parts k p → Stands (seen parts) k p.now
stands_there [] k p lt is = absurd (omega (arith, lt))
stands_there (q ∷ parts) zero p lt is = (omega arith, ap (λ (x : Bor PartFound). x.now) (sym is))
stands_there (q ∷ parts) (suc k) p lt is = let rest = stands_there parts k p (omega (arith, lt)) is in (omega (arith, rest.0), rest.1)

pub one_stands : {X : Type 0} (xs : List X) (k : ℕ) (x y : X) → Stands xs k x → Stands xs k y → x ≡ y
one_stands xs k x y a b = sym a.1 ∙ get_or_default xs k x y a.0 ∙ b.1

pub stands_long : (parts : List (Bor PartFound)) (k : ℕ) (p : PartFound) → Stands (seen parts) k p → k < length parts
stands_long [] k p there = absurd (omega (arith, there.0))
stands_long (q ∷ parts) zero p there = omega arith
stands_long (q ∷ parts) (suc k) p there = let rest = stands_long parts k p (omega (arith, there.0), there.1) in omega (arith, rest)

-- the head that is read of one of the parts
pub head_read : (parts : List (Bor PartFound)) (k : ℕ) (r : Bor PartFound) (h : DumpHeadFields) → r ≡ get_or parts k r → h ≡ (get_or parts k r).now.head → h ≡ r.now.head
head_read parts k r h is value = value ∙ ap (λ (x : Bor PartFound). x.now.head) (sym is)

-- ---- parts that lead to an end

pub leads_by_end : (all : List PartFound) (p : PartFound) → IsEnding p → Completes all p
leads_by_end all p ending = ([], ending)

pub leads_by_next : (all : List PartFound) (good : List Bool) (p : PartFound) (k : ℕ) (q : PartFound) → AreKnownFrom all good (p.head.part + 1) → Stands all k q → IsFlagged good k → ToldNext p q → Completes all p
leads_by_next all good p k q known stands flagged next =
    let rest = (known k q stands (omega (arith, next.part))).0 flagged in
    (q ∷ rest.0, ((k, stands.0, stands.1), next, rest.1))

pub leads_nowhere : (all : List PartFound) (good : List Bool) (p : PartFound) → AreKnownFrom all good (p.head.part + 1) → (IsEnding p → ⊥) → HasNoNext all good p → Completes all p → ⊥
leads_nowhere all good p known not_ending no_next ([], leads) = not_ending leads
leads_nowhere all good p known not_ending no_next (q ∷ qs, leads) =
    no_next leads.0.0 q (leads.0.1, leads.0.2) ((known leads.0.0 q (leads.0.1, leads.0.2) (omega (arith, leads.1.part))).1 (qs, leads.2)) leads.1

-- ---- flags

pub flag_written : (all : List PartFound) (good : List Bool) (i : ℕ) (p : PartFound) (b : Bool) → i < length good → Stands all i p → ((b ≡ true) ↔ Completes all p)
    → (k : ℕ) (q : PartFound) → Stands all k q → ((k ≡ i → ⊥) → IsKnown all good k q) → IsKnown all (set good i b) k q
flag_written all good i p b within stands decides k q there others = elim (same_or_not k i) [
  | inl same ↦
      (let part : p ≡ q = one_stands all k p q (subst (λ (n : ℕ). Stands all n p) (sym same) stands) there in
      let flag : get_or (set good i b) k false ≡ b = ap (λ (n : ℕ). get_or (set good i b) n false) same ∙ get_or-set_same good i b false within in
      ((λ on. subst (Completes all) part (decides.0 (sym flag ∙ on))), (λ c. flag ∙ decides.1 (subst (Completes all) (sym part) c))))
  | inr other ↦
      (let flag : get_or (set good i b) k false ≡ get_or good k false = get_or-set_other good i k b false other in
      let known = others other in
      ((λ on. known.0 (sym flag ∙ on)), (λ c. flag ∙ known.1 c)))
]

pub known_at_first : (all : List PartFound) (good : List Bool) (o : Option ℕ) → IsGreatestBelow all None (length all) o → AreKnownAbove all good o
known_at_first all good None greatest = λ k p there. absurd (greatest.each k p there.0 there tt)
known_at_first all good (Some n) greatest = λ k p there least. absurd (let le : p.head.part ≤ n = greatest.each k p there.0 there tt in omega (arith, le, least))

pub known_further : (all : List PartFound) (good : List Bool) (bound : ℕ) (o : Option ℕ) → AreKnownFrom all good bound → IsGreatestBelow all (Some bound) (length all) o → AreKnownAbove all good o
known_further all good bound None known greatest = λ k p there. elim (either p.head.part bound) [
  | inl lt ↦ absurd (greatest.each k p there.0 there lt)
  | inr le ↦ known k p there le
]
known_further all good bound (Some n) known greatest = λ k p there least. elim (either p.head.part bound) [
  | inl lt ↦ absurd (let le : p.head.part ≤ n = greatest.each k p there.0 there lt in omega (arith, le, least))
  | inr le ↦ known k p there le
]

-- how many numbers may still come
abbrev pub steps_left : Option ℕ → ℕ
steps_left None = 0
steps_left (Some n) = suc n

pub fewer_left : (n : ℕ) (o : Option ℕ) → IfSome o (λ m. IsBelow m (Some n)) → steps_left o < suc n
fewer_left n None below = omega arith
fewer_left n (Some m) below = omega (arith, below)

-- ---- the greatest number

not_above : (n : ℕ) (g : Option ℕ) → (IsAbove n g → ⊥) → IsUpTo n g
not_above n None not = absurd (not tt)
not_above n (Some m) not = omega (arith, not)

up_further : (n m : ℕ) (g : Option ℕ) → IsUpTo n g → IsAbove m g → IsUpTo n (Some m)
up_further n m None le lt = absurd le
up_further n m (Some x) le lt = omega (arith, le, lt)

pub last_or_before : (k i : ℕ) → k < i + 1 → (k < i) ⊎ (k ≡ i)
last_or_before k i lt = elim (either k i) [
  | inl less ↦ inl less
  | inr ge ↦ inr (omega (arith, lt, ge))
]

pub none_greatest : (all : List PartFound) (bound : Option ℕ) → IsGreatestBelow all bound 0 None
none_greatest all bound = record { each = λ k p lt there below. absurd (omega (arith, lt)); below = tt }

greatest_kept : (all : List PartFound) (bound : Option ℕ) (i : ℕ) (g : Option ℕ) (p : PartFound) → IsGreatestBelow all bound i g → Stands all i p → (IsBelow p.head.part bound → IsAbove p.head.part g → ⊥) → IsGreatestBelow all bound (i + 1) g
greatest_kept all bound i g p greatest stands not = record {
  each = λ k q lt there below. elim (last_or_before k i lt) [
    | inl before ↦ greatest.each k q before there below
    | inr same ↦
        (let one : p ≡ q = one_stands all k p q (subst (λ (n : ℕ). Stands all n p) (sym same) stands) there in
        not_above q.head.part g (subst (λ (x : PartFound). IsAbove x.head.part g → ⊥) one (not (subst (λ (x : PartFound). IsBelow x.head.part bound) (sym one) below))))
  ];
  below = greatest.below;
}

greatest_taken : (all : List PartFound) (bound : Option ℕ) (i : ℕ) (g : Option ℕ) (p : PartFound) → IsGreatestBelow all bound i g → Stands all i p → IsBelow p.head.part bound → IsAbove p.head.part g → IsGreatestBelow all bound (i + 1) (Some p.head.part)
greatest_taken all bound i g p greatest stands low above = record {
  each = λ k q lt there below. elim (last_or_before k i lt) [
    | inl before ↦ up_further q.head.part p.head.part g (greatest.each k q before there below) above
    | inr same ↦
        (let one : p ≡ q = one_stands all k p q (subst (λ (n : ℕ). Stands all n p) (sym same) stands) there in
        subst (λ (x : PartFound). x.head.part ≤ p.head.part) one (omega arith))
  ];
  below = low;
}

pub number_kept : (all : List PartFound) (bound : Option ℕ) (i : ℕ) (g : Option ℕ) (p : PartFound) (n : ℕ) → n ≡ p.head.part → IsGreatestBelow all bound i g → Stands all i p → (IsBelow n bound → IsAbove n g → ⊥) → IsGreatestBelow all bound (i + 1) g
number_kept all bound i g p n is greatest stands not = greatest_kept all bound i g p greatest stands (subst (λ (m : ℕ). IsBelow m bound → IsAbove m g → ⊥) is not)

pub number_taken : (all : List PartFound) (bound : Option ℕ) (i : ℕ) (g : Option ℕ) (p : PartFound) (n : ℕ) → n ≡ p.head.part → IsGreatestBelow all bound i g → Stands all i p → IsBelow n bound → IsAbove n g → IsGreatestBelow all bound (i + 1) (Some n)
number_taken all bound i g p n is greatest stands low above =
    subst (λ (m : ℕ). IsGreatestBelow all bound (i + 1) (Some m)) (sym is)
    (greatest_taken all bound i g p greatest stands (subst (λ (m : ℕ). IsBelow m bound) is low) (subst (λ (m : ℕ). IsAbove m g) is above))

-- ---- flags, place by place

-- of the first so many parts it is known where their number is this or above
abbrev pub AreKnownBefore : List PartFound → List Bool → ℕ → ℕ → Type 0
AreKnownBefore all good number count = (k : ℕ) (p : PartFound) → k < count → Stands all k p → number ≤ p.head.part → IsKnown all good k p

pub flags_taken : (all : List PartFound) (good : List Bool) (number i : ℕ) (p : PartFound) (b : Bool) → i < length good → Stands all i p → ((b ≡ true) ↔ Completes all p)
    → AreKnownFrom all good (number + 1) → AreKnownBefore all good number i → AreKnownFrom all (set good i b) (number + 1) × AreKnownBefore all (set good i b) number (i + 1)
flags_taken all good number i p b within stands decides known before = (
  (λ k q there least. flag_written all good i p b within stands decides k q there (λ other. known k q there least)),
  (λ k q lt there least. flag_written all good i p b within stands decides k q there (λ other. before k q (elim (last_or_before k i lt) [
    | inl less ↦ less
    | inr same ↦ absurd (other same)
  ]) there least)),
)

pub flags_kept : (all : List PartFound) (good : List Bool) (number i : ℕ) (p : PartFound) → Stands all i p → (p.head.part ≡ number → ⊥)
    → AreKnownFrom all good (number + 1) → AreKnownBefore all good number i → AreKnownFrom all good (number + 1) × AreKnownBefore all good number (i + 1)
flags_kept all good number i p stands other known before = (
  known,
  (λ k q lt there least. elim (last_or_before k i lt) [
    | inl less ↦ before k q less there least
    | inr same ↦
        (let one : p ≡ q = one_stands all k p q (subst (λ (n : ℕ). Stands all n p) (sym same) stands) there in
        let not : q.head.part ≡ number → ⊥ = subst (λ (x : PartFound). x.head.part ≡ number → ⊥) one other in
        known k q there (omega (arith, least, not)))
  ]),
)

-- ---- one more place

pub none_before : (all : List PartFound) (good : List Bool) (p : PartFound) (i : ℕ) → ((k : ℕ) (r : PartFound) → k < i → Stands all k r → IsFlagged good k → ToldNext p r → ⊥)
    → (q : PartFound) → Stands all i q → (IsFlagged good i → ToldNext p q → ⊥) → (k : ℕ) (r : PartFound) → k < i + 1 → Stands all k r → IsFlagged good k → ToldNext p r → ⊥
none_before all good p i before q stands not k r lt there flagged next = elim (last_or_before k i lt) [
  | inl less ↦ before k r less there flagged next
  | inr same ↦
      (let one : r ≡ q = one_stands all i r q (subst (λ (n : ℕ). Stands all n r) same there) stands in
      not (subst (IsFlagged good) same flagged) (subst (ToldNext p) one next))
]
