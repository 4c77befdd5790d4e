-- The bytes of a volume that are left, and the room of a tape, fix the next fragment.
use Rattle.std.proofs.Common.{◌≡◌, ◌⊎◌, inl, inr, ℕ, zero, suc, ◌+◌, ◌*◌, ◌<◌, ◌≤◌, true, false, Option, Some, None, List, [], ◌∷◌, ◌++◌, length, refl, sym, ap, subst, ◌∙◌, arith, length-append}
use Rattle.std.specs.Prelude.{All, ◌==◌, slice_get}
use Rattle.std.specs.List.{flat_map}
use Rattle.std.proofs.lemmas.Bool.{cases_Bool, eqb-true, eq-eqb}
use Rattle.std.proofs.lemmas.List.Elements.{All-nil, All-cons, All-head, All-tail, filter-append}
use Rattle.std.proofs.lemmas.List.Concat.{flat_map-append}
use Rattle.std.proofs.lemmas.Option.{slice_get_cases}
use Rattle.tape_frames.specs.declared.data.DataFields.{DataFields}
use Rattle.tape_frames.specs.declared.vol_head.VolHeadFields.{VolHeadFields}
use Rattle.tape_frames.specs.Layouts.{FitsData}
use Rattle.tape_text.specs.Texts.{Fragment, AreFilled, IsPiece, used_of, IsFragment, Linked}
use Rattle.tape_text.specs.Wholes.{GoesOn}
use Rattle.tape_writer.specs.Filling.{Dumping, head_of, bytes_of, fragment_bytes, of_index}
use Rattle.tape_writer.proofs.OnePieces.{IsGood, all_both, same_front, filled_any, same_pieces, used_length, at_most, at_least, exactly}

-- ---- a fragment of the dump

abbrev pub HasHead : ℕ → List Dumping → Fragment → Type 0
HasHead dump volumes f = (v : Dumping) → slice_get volumes f.head.index ≡ Some v → f.head ≡ head_of dump f.head.index f.head.fragment v

pub record IsWell (dump : ℕ) (volumes : List Dumping) (f : Fragment) : Type 0 where
  pub own : IsFragment f
  pub within : f.head.index < length volumes
  pub fits : All FitsData f.pieces
  pub head : HasHead dump volumes f
  pub last : f.end.last ≤ 1

pub good_pieces : (dump : ℕ) (volumes : List Dumping) (f : Fragment) → IsWell dump volumes f → All (IsGood f.head.dump f.head.index) f.pieces
good_pieces dump volumes f well = all_both FitsData (IsPiece f.head.dump f.head.index) f.pieces well.fits well.own.pieces

-- ---- the bytes of one volume

abbrev pub bytes_at : ℕ → List Fragment → List ℕ
bytes_at i fs = flat_map fragment_bytes (of_index i fs)

pub differs : (a b : ℕ) → (a ≡ b → ⊥) → (a == b) ≡ false
differs a b other = elim (cases_Bool (a == b)) [
  | inl same ↦ absurd (other (eqb-true a b same))
  | inr none ↦ none
]

pub bytes_first : (i : ℕ) (f : Fragment) (xs : List Fragment) → f.head.index ≡ i → bytes_at i (f ∷ xs) ≡ fragment_bytes f ++ bytes_at i xs
bytes_first i f xs same = let here : (f.head.index == i) ≡ true = eq-eqb f.head.index i same in rw here refl

pub bytes_other : (i : ℕ) (f : Fragment) (xs : List Fragment) → (f.head.index ≡ i → ⊥) → bytes_at i (f ∷ xs) ≡ bytes_at i xs
bytes_other i f xs other = let here : (f.head.index == i) ≡ false = differs f.head.index i other in rw here refl

pub bytes_at-append : (i : ℕ) (xs ys : List Fragment) → bytes_at i (xs ++ ys) ≡ bytes_at i xs ++ bytes_at i ys
bytes_at-append i xs ys = ap (λ (l : List Fragment). flat_map fragment_bytes l) (filter-append (λ (f : Fragment). f.head.index == i) xs ys) ∙ flat_map-append fragment_bytes (of_index i xs) (of_index i ys)

-- ---- indexes don't fall

goes_up : (f g : Fragment) → GoesOn f g → f.head.index ≤ g.head.index
goes_up f g goes = elim goes [
  | inl same ↦ omega (arith, ap (λ (h : VolHeadFields). h.index) same.1)
  | inr next ↦ omega (arith, next.1.0)
]

all_from : (k : ℕ) (f : Fragment) (xs : List Fragment) → Linked GoesOn (f ∷ xs) → k ≤ f.head.index → All (λ h. k ≤ h.head.index) (f ∷ xs)
all_from k f [] linked le = All-cons (λ (h : Fragment). k ≤ h.head.index) f [] le (All-nil (λ (h : Fragment). k ≤ h.head.index))
all_from k f (g ∷ xs) linked le = All-cons (λ (h : Fragment). k ≤ h.head.index) f (g ∷ xs) le (all_from k g xs linked.1 (omega (arith, le, goes_up f g linked.0)))

none_at : (i : ℕ) (xs : List Fragment) → All (λ h. i + 1 ≤ h.head.index) xs → bytes_at i xs ≡ []
none_at i [] from = refl
none_at i (f ∷ xs) from =
    let above = All-head (λ (h : Fragment). i + 1 ≤ h.head.index) f xs from in
    bytes_other i f xs (λ same. omega (arith, same, above)) ∙ none_at i xs (All-tail (λ (h : Fragment). i + 1 ≤ h.head.index) f xs from)

-- behind its last fragment a volume has no bytes
pub none_behind : (f : Fragment) (xs : List Fragment) → Linked GoesOn (f ∷ xs) → f.end.last ≡ 1 → bytes_at f.head.index xs ≡ []
none_behind f [] linked last = refl
none_behind f (g ∷ xs) linked last = elim linked.0 [
  | inl goes ↦ absurd (omega (arith, goes.0, last))
  | inr next ↦ none_at f.head.index (g ∷ xs) (all_from (f.head.index + 1) g xs linked.1 (omega (arith, next.1.0)))
]

-- a fragment has a byte
pub some_bytes : (dump : ℕ) (volumes : List Dumping) (f : Fragment) → IsWell dump volumes f → 1 ≤ length (fragment_bytes f)
some_bytes dump volumes f well = at_least_one f.head.dump f.head.index f.pieces (good_pieces dump volumes f well) (filled_any f.end.last f.pieces well.own.filled)
  where
    at_least_one : (d i : ℕ) (ds : List DataFields) → All (IsGood d i) ds → AreFilled 1 ds → 1 ≤ length (flat_map bytes_of ds)
    at_least_one d i [] good filled = absurd filled
    at_least_one d i (p ∷ ps) good filled = omega (arith, used_length d i (p ∷ ps) good, at_least d i (p ∷ ps) filled good)

-- behind another one it has
pub some_behind : (dump : ℕ) (volumes : List Dumping) (f : Fragment) (xs : List Fragment) → Linked GoesOn (f ∷ xs) → All (IsWell dump volumes) xs → f.end.last ≡ 0 → (xs ≡ [] → ⊥) → 1 ≤ length (bytes_at f.head.index xs)
some_behind dump volumes f [] linked well last some = absurd (some refl)
some_behind dump volumes f (g ∷ xs) linked well last some = elim linked.0 [
  | inl goes ↦
      (let index : g.head.index ≡ f.head.index = ap (λ (h : VolHeadFields). h.index) goes.1 in
      let here = some_bytes dump volumes g (All-head (IsWell dump volumes) g xs well) in
      rw (bytes_first f.head.index g xs index) (omega (arith, here, length-append (fragment_bytes g) (bytes_at f.head.index xs))))
  | inr next ↦ absurd (omega (arith, next.0, last))
]

-- ---- heads

-- a fragment behind this one, or the dump's first
abbrev pub Follows : Option Fragment → Fragment → Type 0
Follows None f = (f.head.index ≡ 0) × (f.head.fragment ≡ 1)
Follows (Some e) f = GoesOn e f

by_number : (dump : ℕ) (volumes : List Dumping) (f g : Fragment) → IsWell dump volumes f → IsWell dump volumes g → f.head.index ≡ g.head.index → f.head.fragment ≡ g.head.fragment → f.head ≡ g.head
by_number dump volumes f g wf wg index fragment = elim (slice_get_cases volumes f.head.index).1 [
  | inl found ↦
      (let here : slice_get volumes f.head.index ≡ Some found.0 = found.2 in
      let there : slice_get volumes g.head.index ≡ Some found.0 = subst (λ (n : ℕ). slice_get volumes n ≡ Some found.0) index here in
      wf.head found.0 here ∙ (λ i. head_of dump (index i) (fragment i) found.0) ∙ sym (wg.head found.0 there))
  | inr past ↦ absurd (omega (arith, past.0, wf.within))
]

pub same_head : (dump : ℕ) (volumes : List Dumping) (prev : Option Fragment) (f g : Fragment) → IsWell dump volumes f → IsWell dump volumes g → Follows prev f → Follows prev g → f.head ≡ g.head
same_head dump volumes None f g wf wg a b = by_number dump volumes f g wf wg (a.0 ∙ sym b.0) (a.1 ∙ sym b.1)
same_head dump volumes (Some e) f g wf wg a b = elim a [
  | inl one ↦ elim b [
    | inl two ↦ one.1 ∙ sym two.1
    | inr two ↦ absurd (omega (arith, one.0, two.0))
  ]
  | inr one ↦ elim b [
    | inl two ↦ absurd (omega (arith, one.0, two.0))
    | inr two ↦ by_number dump volumes f g wf wg (one.1.0 ∙ sym two.1.0) (one.1.1 ∙ sym two.1.1)
  ]
]

pub same_end : (f g : Fragment) → IsFragment f → IsFragment g → f.head ≡ g.head → f.pieces ≡ g.pieces → f.end.last ≡ g.end.last → f ≡ g
same_end f g a b head pieces last =
    let dump : f.end.dump ≡ g.end.dump = a.dump ∙ ap (λ (h : VolHeadFields). h.dump) head ∙ sym b.dump in
    let index : f.end.index ≡ g.end.index = a.index ∙ ap (λ (h : VolHeadFields). h.index) head ∙ sym b.index in
    let fragment : f.end.fragment ≡ g.end.fragment = a.fragment ∙ ap (λ (h : VolHeadFields). h.fragment) head ∙ sym b.fragment in
    let bytes : f.end.bytes ≡ g.end.bytes = a.bytes ∙ ap used_of pieces ∙ sym b.bytes in
    λ i. record { head = head i; pieces = pieces i; end = record { dump = dump i; index = index i; fragment = fragment i; last = last i; bytes = bytes i } }

-- ---- one fragment

-- a fragment that goes on has bytes of its volume behind it, and isn't shorter than any that stays
pub record GoesFar (f : Fragment) (xs : List Fragment) (g : Fragment) : Type 0 where
  pub some : 1 ≤ length (bytes_at f.head.index xs)
  pub long : length g.pieces ≤ length f.pieces

zero_or_one : (n : ℕ) → n ≤ 1 → (n ≡ 0) ⊎ (n ≡ 1)
zero_or_one zero le = inl refl
zero_or_one (suc zero) le = inr refl
zero_or_one (suc (suc n)) le = absurd (omega (arith, le))

pub same_first : (dump : ℕ) (volumes : List Dumping) (f g : Fragment) (xs ys : List Fragment) → IsWell dump volumes f → IsWell dump volumes g → f.head ≡ g.head → Linked GoesOn (f ∷ xs) → Linked GoesOn (g ∷ ys)
    → bytes_at f.head.index (f ∷ xs) ≡ bytes_at f.head.index (g ∷ ys) → (f.end.last ≡ 0 → GoesFar f xs g) → (g.end.last ≡ 0 → GoesFar g ys f) → f ≡ g
same_first dump volumes f g xs ys wf wg head lf lg bytes far_f far_g = elim (zero_or_one f.end.last wf.last) [
  | inl f0 ↦ elim (zero_or_one g.end.last wg.last) [
    | inl g0 ↦
        (let more = far_f f0 in
        let less = far_g g0 in
        let uf = exactly f.pieces (subst (λ (n : ℕ). AreFilled n f.pieces) f0 wf.own.filled) in
        let ug = exactly g.pieces (subst (λ (n : ℕ). AreFilled n g.pieces) g0 wg.own.filled) in
        finish (omega (arith, more.long, less.long)) (omega (arith, more.long, less.long, uf, ug)) (f0 ∙ sym g0))
    | inr g1 ↦
        (let more = far_f f0 in
        let uf = exactly f.pieces (subst (λ (n : ℕ). AreFilled n f.pieces) f0 wf.own.filled) in
        let none : length (bytes_at f.head.index ys) ≡ 0 = ap length (subst (λ (n : ℕ). bytes_at n ys ≡ []) (sym index) (none_behind g ys lg g1)) in
        absurd (omega (arith, more.some, more.long, uf, sums, none, most_g)))
  ]
  | inr f1 ↦
      (let gone : length (bytes_at f.head.index xs) ≡ 0 = ap length (none_behind f xs lf f1) in
      elim (zero_or_one g.end.last wg.last) [
        | inl g0 ↦
            (let more = far_g g0 in
            let ug = exactly g.pieces (subst (λ (n : ℕ). AreFilled n g.pieces) g0 wg.own.filled) in
            let some : 1 ≤ length (bytes_at f.head.index ys) = subst (λ (n : ℕ). 1 ≤ length (bytes_at n ys)) (sym index) more.some in
            absurd (omega (arith, some, more.long, ug, sums, gone, most_f)))
        | inr g1 ↦
            (let none : length (bytes_at f.head.index ys) ≡ 0 = ap length (subst (λ (n : ℕ). bytes_at n ys ≡ []) (sym index) (none_behind g ys lg g1)) in
            finish (omega (arith, sums, gone, none, most_f, most_g, least_f, least_g)) (omega (arith, sums, gone, none)) (f1 ∙ sym g1))
      ])
]
  where
    index : f.head.index ≡ g.head.index
    index = ap (λ (h : VolHeadFields). h.index) head

    joined : fragment_bytes f ++ bytes_at f.head.index xs ≡ fragment_bytes g ++ bytes_at f.head.index ys
    joined = sym (bytes_first f.head.index f xs refl) ∙ bytes ∙ bytes_first f.head.index g ys (sym index)

    good_f : All (IsGood f.head.dump f.head.index) f.pieces
    good_f = good_pieces dump volumes f wf

    good_g : All (IsGood f.head.dump f.head.index) g.pieces
    good_g = subst (λ (h : VolHeadFields). All (IsGood h.dump h.index) g.pieces) (sym head) (good_pieces dump volumes g wg)

    sums : used_of f.pieces + length (bytes_at f.head.index xs) ≡ used_of g.pieces + length (bytes_at f.head.index ys)
    sums = omega (arith, ap length joined, length-append (fragment_bytes f) (bytes_at f.head.index xs), length-append (fragment_bytes g) (bytes_at f.head.index ys), used_length f.head.dump f.head.index f.pieces good_f, used_length f.head.dump f.head.index g.pieces good_g)

    most_f : used_of f.pieces ≤ length f.pieces * 16352
    most_f = at_most f.head.dump f.head.index f.pieces good_f

    most_g : used_of g.pieces ≤ length g.pieces * 16352
    most_g = at_most f.head.dump f.head.index g.pieces good_g

    least_f : length f.pieces * 16352 < used_of f.pieces + 16352
    least_f = at_least f.head.dump f.head.index f.pieces (filled_any f.end.last f.pieces wf.own.filled) good_f

    least_g : length g.pieces * 16352 < used_of g.pieces + 16352
    least_g = at_least f.head.dump f.head.index g.pieces (filled_any g.end.last g.pieces wg.own.filled) good_g

    finish : length f.pieces ≡ length g.pieces → used_of f.pieces ≡ used_of g.pieces → f.end.last ≡ g.end.last → f ≡ g
    finish count used last =
        let lens : length (fragment_bytes f) ≡ length (fragment_bytes g) = used_length f.head.dump f.head.index f.pieces good_f ∙ used ∙ sym (used_length f.head.dump f.head.index g.pieces good_g) in
        let front = (same_front (fragment_bytes f) (fragment_bytes g) (bytes_at f.head.index xs) (bytes_at f.head.index ys) lens joined).0 in
        let pieces = same_pieces f.head.dump f.head.index f.pieces g.pieces count (filled_any f.end.last f.pieces wf.own.filled) (filled_any g.end.last g.pieces wg.own.filled) good_f good_g front in
        same_end f g wf.own wg.own head pieces last
