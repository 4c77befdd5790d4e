-- Fragments one behind another, and the part that they make.
use Rattle.std.proofs.Common.{◌≡◌, ◌⊎◌, ℕ, zero, suc, ◌+◌, ◌-◌, ◌<◌, ◌≤◌, Bool, true, false, Some, List, [], ◌∷◌, ◌++◌, length, map, refl, sym, ap, ◌∙◌, arith, inl, inr, append_assoc, append-nil}
use Rattle.std.specs.Prelude.{◌&&◌, ◌==◌, All, Contains, slice_get, filter}
use Rattle.std.specs.List.{flat_map}
use Rattle.std.proofs.lemmas.Bool.{eq-eqb, eqb-true, cases_Bool}
use Rattle.std.proofs.lemmas.List.Elements.{All-nil, All-cons, All-head, All-tail}
use Rattle.tape_text.specs.Texts.{Fragment, Linked, Begins, ends_dump}
use Rattle.tape_text.specs.Wholes.{Ends}
use Rattle.dump_laws.specs.Neighbours.{LastIs, FirstIs}

pub linked_more : {X : Type 0} (Next : X → X → Type 0) (xs : List X) (y : X) → Linked Next xs → LastIs (λ x. Next x y) xs → Linked Next (xs ++ y ∷ [])
linked_more Next [] y linked last = tt
linked_more Next (x ∷ []) y linked last = (last, tt)
linked_more Next (x ∷ z ∷ xs) y linked last = (linked.0, linked_more Next (z ∷ xs) y linked.1 last)

pub last_more : {X : Type 0} (Is : X → Type 0) (xs : List X) (y : X) → Is y → LastIs Is (xs ++ y ∷ [])
last_more Is [] y is = is
last_more Is (x ∷ []) y is = is
last_more Is (x ∷ z ∷ xs) y is = last_more Is (z ∷ xs) y is

pub ends_more : (Is : Fragment → Type 0) (fs : List Fragment) (f : Fragment) → Is f → Ends Is (fs ++ f ∷ [])
ends_more Is [] f is = is
ends_more Is (g ∷ []) f is = is
ends_more Is (g ∷ h ∷ fs) f is = ends_more Is (h ∷ fs) f is

pub last_so : {X : Type 0} (Is So : X → Type 0) (xs : List X) → ((x : X) → Is x → So x) → LastIs Is xs → LastIs So xs
last_so Is So [] so last = tt
last_so Is So (x ∷ []) so last = so x last
last_so Is So (x ∷ y ∷ xs) so last = last_so Is So (y ∷ xs) so last

pub ends_so : (Is So : Fragment → Type 0) (fs : List Fragment) → ((f : Fragment) → Is f → So f) → Ends Is fs → Ends So fs
ends_so Is So [] so ends = ends
ends_so Is So (f ∷ []) so ends = so f ends
ends_so Is So (f ∷ g ∷ fs) so ends = ends_so Is So (g ∷ fs) so ends

pub ends_last : (Is : Fragment → Type 0) (fs : List Fragment) → Ends Is fs → LastIs Is fs
ends_last Is [] ends = tt
ends_last Is (f ∷ []) ends = ends
ends_last Is (f ∷ g ∷ fs) ends = ends_last Is (g ∷ fs) ends

-- the last of them, one that is so
pub ends_one : (Is : Fragment → Type 0) (fs : List Fragment) → Ends Is fs → (before : List Fragment) × (f : Fragment) × (fs ≡ before ++ f ∷ []) × Is f
ends_one Is [] ends = absurd ends
ends_one Is (f ∷ []) ends = ([], f, refl, ends)
ends_one Is (f ∷ g ∷ fs) ends = (let rest = ends_one Is (g ∷ fs) ends in (f ∷ rest.0, rest.1, ap (λ (l : List Fragment). f ∷ l) rest.2, rest.3))

pub first_more : (Is : Fragment → Type 0) (fs : List Fragment) (f : Fragment) → FirstIs Is fs → (fs ≡ [] → Is f) → FirstIs Is (fs ++ f ∷ [])
first_more Is [] f first is = is refl
first_more Is (g ∷ fs) f first is = first

pub first_begins : (Is So : Fragment → Type 0) (fs : List Fragment) → (fs ≡ [] → ⊥) → ((f : Fragment) → Is f → So f) → FirstIs Is fs → Begins So fs
first_begins Is So [] some so first = absurd (some refl)
first_begins Is So (f ∷ fs) some so first = so f first

pub all_more : {X : Type 0} (P : X → Type 0) (xs : List X) (x : X) → All P xs → P x → All P (xs ++ x ∷ [])
all_more P [] x all is = All-cons P x [] is (All-nil P)
all_more P (y ∷ xs) x all is = All-cons P y (xs ++ x ∷ []) (All-head P y xs all) (all_more P xs x (All-tail P y xs all) is)

-- ---- whether fragments end a dump

pub ends_no_volume : (volumes : ℕ) (fs : List Fragment) → Ends (λ f. f.end.last ≡ 0) fs → ends_dump volumes fs ≡ false
ends_no_volume volumes [] ends = absurd ends
ends_no_volume volumes (f ∷ []) ends = rw ends refl
ends_no_volume volumes (f ∷ g ∷ fs) ends = ends_no_volume volumes (g ∷ fs) ends

and_false : (b : Bool) → (b && false) ≡ false
and_false true = refl
and_false false = refl

pub ends_earlier : (volumes : ℕ) (fs : List Fragment) → Ends (λ f. f.head.index + 1 < volumes) fs → ends_dump volumes fs ≡ false
ends_earlier volumes [] ends = absurd ends
ends_earlier volumes (f ∷ []) ends = elim (cases_Bool (f.head.index + 1 == volumes)) [
  | inl same ↦ absurd (omega (arith, ends, eqb-true (f.head.index + 1) volumes same))
  | inr other ↦ (let unlike : ((f.end.last == 1) && (f.head.index + 1 == volumes)) ≡ false = rw other (and_false (f.end.last == 1)) in unlike)
]
ends_earlier volumes (f ∷ g ∷ fs) ends = ends_earlier volumes (g ∷ fs) ends

pub ends_whole : (volumes : ℕ) (fs : List Fragment) → Ends (λ f. (f.end.last ≡ 1) × (f.head.index + 1 ≡ volumes)) fs → ends_dump volumes fs ≡ true
ends_whole volumes [] ends = absurd ends
ends_whole volumes (f ∷ []) ends = (let last : (f.end.last == 1) ≡ true = eq-eqb f.end.last 1 ends.0 in let all : (f.head.index + 1 == volumes) ≡ true = eq-eqb (f.head.index + 1) volumes ends.1 in rw (last, all) refl)
ends_whole volumes (f ∷ g ∷ fs) ends = ends_whole volumes (g ∷ fs) ends

-- ---- lists of anything

pub last_and : {X : Type 0} (A B : X → Type 0) (xs : List X) → LastIs A xs → LastIs B xs → LastIs (λ x. A x × B x) xs
last_and A B [] a b = tt
last_and A B (x ∷ []) a b = (a, b)
last_and A B (x ∷ y ∷ xs) a b = last_and A B (y ∷ xs) a b

pub last_all : {X : Type 0} (P : X → Type 0) (xs : List X) → All P xs → LastIs P xs
last_all P [] all = tt
last_all P (x ∷ []) all = All-head P x [] all
last_all P (x ∷ y ∷ xs) all = last_all P (y ∷ xs) (All-tail P x (y ∷ xs) all)

pub last_map : {X Y : Type 0} (P : Y → Type 0) (f : X → Y) (xs : List X) → LastIs (λ x. P (f x)) xs → LastIs P (map f xs)
last_map P f [] last = tt
last_map P f (x ∷ []) last = last
last_map P f (x ∷ y ∷ xs) last = last_map P f (y ∷ xs) last

pub map_more : {X Y : Type 0} (f : X → Y) (xs : List X) (x : X) → map f (xs ++ x ∷ []) ≡ map f xs ++ f x ∷ []
map_more f [] x = refl
map_more f (y ∷ xs) x = ap (λ l. f y ∷ l) (map_more f xs x)

pub flat_more : {X Y : Type 0} (f : X → List Y) (xs : List X) (x : X) → flat_map f (xs ++ x ∷ []) ≡ flat_map f xs ++ f x
flat_more f [] x = append-nil (f x)
flat_more f (y ∷ xs) x = ap (λ l. f y ++ l) (flat_more f xs x) ∙ sym (append_assoc (f y) (flat_map f xs) (f x))

pub in_more : {X : Type 0} (xs : List X) (y x : X) → Contains (xs ++ y ∷ []) x → Contains xs x ⊎ (y ≡ x)
in_more [] y x (zero, within, is) = inr is
in_more [] y x (suc k, within, is) = absurd (omega (arith, within))
in_more (z ∷ xs) y x (zero, within, is) = inl (0, omega arith, is)
in_more (z ∷ xs) y x (suc k, within, is) = elim (in_more xs y x (k, omega (arith, within), is)) [
  | inl there ↦ inl (suc there.0, omega (arith, there.1), there.2)
  | inr here ↦ inr here
]

pub all_so : {X : Type 0} (P Q : X → Type 0) (xs : List X) → ((x : X) → P x → Q x) → All P xs → All Q xs
all_so P Q [] so all = All-nil Q
all_so P Q (x ∷ xs) so all = All-cons Q x xs (so x (All-head P x xs all)) (all_so P Q xs so (All-tail P x xs all))

pub get_more : {X : Type 0} (xs : List X) (y : X) (n : ℕ) (x : X) → slice_get (xs ++ y ∷ []) n ≡ Some x → (slice_get xs n ≡ Some x) ⊎ ((n ≡ length xs) × (y ≡ x))
get_more [] y zero x is = inr (refl, cc)
get_more [] y (suc n) x is = absurd (cc)
get_more (z ∷ xs) y zero x is = inl is
get_more (z ∷ xs) y (suc n) x is = elim (get_more xs y n x is) [
  | inl there ↦ inl there
  | inr here ↦ inr (omega (arith, here.0), here.1)
]

pub get_within : {X : Type 0} (xs : List X) (n : ℕ) (x : X) → slice_get xs n ≡ Some x → n < length xs
get_within [] n x is = absurd (cc)
get_within (z ∷ xs) zero x is = omega arith
get_within (z ∷ xs) (suc n) x is = omega (arith, get_within xs n x is)

pub get_before : {X : Type 0} (xs ys : List X) (n : ℕ) → n < length xs → slice_get (xs ++ ys) n ≡ slice_get xs n
get_before [] ys n lt = absurd (omega (arith, lt))
get_before (x ∷ xs) ys zero lt = refl
get_before (x ∷ xs) ys (suc n) lt = get_before xs ys n (omega (arith, lt))

pub get_behind : {X : Type 0} (xs ys : List X) (n : ℕ) → length xs ≤ n → slice_get (xs ++ ys) n ≡ slice_get ys (n - length xs)
get_behind [] ys n le = (let e : n ≡ n - 0 = omega arith in ap (slice_get ys) e)
get_behind (x ∷ xs) ys zero le = absurd (omega (arith, le))
get_behind (x ∷ xs) ys (suc n) le = (let e : n - length xs ≡ suc n - length (x ∷ xs) = omega arith in get_behind xs ys n (omega (arith, le)) ∙ ap (slice_get ys) e)

pub filter_append : {X : Type 0} (test : X → Bool) (xs ys : List X) → filter test (xs ++ ys) ≡ filter test xs ++ filter test ys
filter_append test [] ys = refl
filter_append test (x ∷ xs) ys = elim (cases_Bool (test x)) [
  | inl hit ↦ rw hit (ap (λ l. x ∷ l) (filter_append test xs ys))
  | inr miss ↦ rw miss (filter_append test xs ys)
]

pub filter_none : {X : Type 0} (test : X → Bool) (xs : List X) → All (λ x. test x ≡ false) xs → filter test xs ≡ []
filter_none test [] all = refl
filter_none test (x ∷ xs) all =
    (let miss : test x ≡ false = All-head (λ y. test y ≡ false) x xs all in rw miss (filter_none test xs (All-tail (λ y. test y ≡ false) x xs all)))
