-- Paths of levels, of a stated length.
use Rattle.std.proofs.Common.{zero, suc, inl, inr, ◌≡◌, ◌≢◌, ℕ, ◌+◌, ◌-◌, ◌<◌, ◌≤◌, List, [], ◌∷◌, length, refl, sym, ap, subst, ◌∙◌, arith, lit≤, length-append, Bool, true, false, ◌&&◌, not, ◌==◌}
use Rattle.std.specs.Prelude.{All, nat_lt, if◌then◌else◌}
use Rattle.std.proofs.lemmas.Bool.{cases_eq, cases_lt, eqb-true, eq-eqb, ne_eqb, lt-ltb, ltb-true, and_parts, and_from, not-true, false≢true}
use Rattle.std.proofs.lemmas.List.Elements.{All-nil, All-head}
use Rattle.bk_text.specs.Alphabets.{IsNameByte, IsElement}
use Rattle.bk_text.specs.LevelPaths.{path_of, IsLevelPath, MayFollowBefore}
use Rattle.bk_text.specs.Tests.{is_name_byte}
use Rattle.bk_text.proofs.LevelLaws.{PathRest, slash_first, first_is_slash, again, again_from, one_more, byte_from}
use Rattle.bk_text.proofs.StatedLaws.{CanEnd}
use Rattle.byte_formats.specs.Formats.{Format, both, pair, stated}
use Rattle.byte_formats.proofs.FormatLaws.{Sole, Like, split_same}
use Rattle.log_readings.specs.Readers.{read_byte, read_both, read_pair}
use Rattle.log_readings.specs.Texts.{may_follow, count_behind, read_path_rest, read_path}
use Rattle.log_readings.proofs.Answering.{Reads, one_of, reads_byte, reads_like, reads_both, reads_pair, apart}
use Rattle.log_readings.proofs.Words.{name_byte, byte_name, letter}

-- ---- the byte that may follow

not_both : (count left : ℕ) → not ((count == 27) && (left == 1)) ≡ true → count ≡ 27 → left ≡ 1 → ⊥
not_both count left e last one = false≢true (sym (not-true ((count == 27) && (left == 1)) e) ∙ and_from (count == 27) (left == 1) (eq-eqb count 27 last) (eq-eqb left 1 one))

both_not : (count left : ℕ) → (count ≡ 27 → left ≡ 1 → ⊥) → not ((count == 27) && (left == 1)) ≡ true
both_not count left apart = go ((count == 27) && (left == 1)) refl
  where
    go : (t : Bool) → ((count == 27) && (left == 1)) ≡ t → not t ≡ true
    go true e = let p = and_parts (count == 27) (left == 1) e in absurd (apart (eqb-true count 27 p.0) (eqb-true left 1 p.1))
    go false e = refl

follows : (count left b : ℕ) → may_follow count left b ≡ true → MayFollowBefore count left b
follows count left b = go (b == 47) refl
  where
    go : (t : Bool) → (b == 47) ≡ t → (if t then nat_lt 0 count && nat_lt 0 left else is_name_byte b && (nat_lt count 28 && not ((count == 27) && (left == 1)))) ≡ true → MayFollowBefore count left b
    go true slash e = let p = and_parts (nat_lt 0 count) (nat_lt 0 left) e in inl (eqb-true b 47 slash, ltb-true 0 count p.0, ltb-true 0 left p.1)
    go false other e =
        let p = and_parts (is_name_byte b) (nat_lt count 28 && not ((count == 27) && (left == 1))) e in
        let q = and_parts (nat_lt count 28) (not ((count == 27) && (left == 1))) p.1 in
        inr (name_byte b p.0, ltb-true count 28 q.0, not_both count left q.1)

may : (count left b : ℕ) → MayFollowBefore count left b → may_follow count left b ≡ true
may count left b (inl (slash, some, more)) =
    ap (λ (t : Bool). if t then nat_lt 0 count && nat_lt 0 left else is_name_byte b && (nat_lt count 28 && not ((count == 27) && (left == 1)))) (eq-eqb b 47 slash)
    ∙ and_from (nat_lt 0 count) (nat_lt 0 left) (lt-ltb 0 count some) (lt-ltb 0 left more)
may count left b (inr (name, few, last)) =
    ap (λ (t : Bool). if t then nat_lt 0 count && nat_lt 0 left else is_name_byte b && (nat_lt count 28 && not ((count == 27) && (left == 1)))) (ne_eqb b 47 name.2)
    ∙ and_from (is_name_byte b) (nat_lt count 28 && not ((count == 27) && (left == 1))) (byte_name b name) (and_from (nat_lt count 28) (not ((count == 27) && (left == 1))) (lt-ltb count 28 few) (both_not count left last))

-- some byte may follow where so many bytes can end a path
record Next (count n : ℕ) : Type 0 where
  byte : ℕ
  may : MayFollowBefore count n byte

next_of : (count n : ℕ) → CanEnd count (suc n) → Next count n
next_of count n can = elim (cases_lt count 27) [
  | inl small ↦ record { byte = 97; may = inr (letter, omega arith, λ last one. omega arith) }
  | inr big ↦ elim (cases_eq count 27) [
    | inl last ↦ elim (cases_eq n 1) [
      | inl one ↦ record { byte = 47; may = inl (refl, omega arith, omega arith) }
      | inr other ↦ record { byte = 97; may = inr (letter, omega arith, λ _ one. other one) }
    ]
    | inr not ↦ let full : count ≡ 28 = full_of not (omega arith) can.most in record { byte = 47; may = inl (refl, omega arith, left_of full) }
  ]
]
  where
    full_of : (count ≡ 27 → ⊥) → 27 ≤ count → count ≤ 28 → count ≡ 28
    full_of not low high = elim (cases_lt count 28) [ inl less ↦ absurd (not (omega arith)) | inr more ↦ omega arith ]

    left_of : count ≡ 28 → 0 < n
    left_of full = elim (cases_eq n 0) [ inl none ↦ absurd (can.full full (omega (arith, none))) | inr some ↦ omega arith ]

slash_behind : (count b : ℕ) → b ≡ 47 → count_behind count b ≡ 0
slash_behind count b slash = ap (λ (t : Bool). if t then 0 else count + 1) (eq-eqb b 47 slash)

byte_behind : (count b : ℕ) → b ≢ 47 → count_behind count b ≡ count + 1
byte_behind count b other = ap (λ (t : Bool). if t then 0 else count + 1) (ne_eqb b 47 other)

can_slash : (n : ℕ) → 0 < n → CanEnd 0 n
can_slash n left = record { most = lit≤ tt; begun = λ _. left; full = λ (e : 0 ≡ 28). absurd (omega arith) }

can_next : (count n b : ℕ) → MayFollowBefore count n b → CanEnd (count_behind count b) n
can_next count n b (inl (slash, some, left)) = subst (λ (k : ℕ). CanEnd k n) (sym (slash_behind count b slash)) (can_slash n left)
can_next count n b (inr (name, few, last)) = subst (λ (k : ℕ). CanEnd k n) (sym (byte_behind count b name.2)) (record { most = omega arith; begun = λ e. absurd (omega arith); full = λ full one. last (omega arith) one })

-- ---- the rest of a path

abbrev path_rest : ℕ → ℕ → ℕ → Format (List ℕ)
path_rest left count at = record { Is = λ bytes. (length bytes ≡ left) × PathRest count at bytes; spelled = λ bytes. bytes }

sole_rest : (left count at : ℕ) → Sole (path_rest left count at)
sole_rest left count at = record { same = λ x y r s isx isy e. split_same x y r s (isx.0 ∙ sym isy.0) e }

no_rest : (count at : ℕ) → 0 < count → count ≤ 28 → at ≤ 256 → PathRest count at []
no_rest count at some most short = record {
  front = [];
  elements = [];
  each_byte = All-nil IsNameByte;
  some = omega arith;
  most = omega arith;
  each = All-nil IsElement;
  joined = refl;
  short = omega arith;
}

one_byte_path : (elements : List (List ℕ)) → All IsElement elements → length (path_of elements) ≡ 1 → ⊥
one_byte_path [] each long = omega arith
one_byte_path (e ∷ es) each long =
    let is : IsElement e = All-head IsElement e es each in
    omega (arith, is.some, length-append (47 ∷ e) (path_of es))

-- what stands next, and the rest behind it
behind_next : (count at b : ℕ) (bs : List ℕ) → PathRest count at (b ∷ bs) → MayFollowBefore count (length bs) b × PathRest (count_behind count b) (at + 1) bs
behind_next count at b bs rest = elim (cases_eq b 47) [
  | inl slash ↦
      let next = again count at bs (subst (λ (c : ℕ). PathRest count at (c ∷ bs)) slash rest) in (
        inl (slash, next.0, omega (arith, next.1.some, ap length next.1.joined, length-append next.1.front (path_of next.1.elements))),
        subst (λ (k : ℕ). PathRest k (at + 1) bs) (sym (slash_behind count b slash)) next.1,
      )
  | inr other ↦
      let next = one_more count at b bs other rest in (
        inr (
          next.0,
          next.1,
          λ last one.
              let none : length next.2.front ≡ 0 = omega (arith, next.2.most) in
              one_byte_path next.2.elements next.2.each (omega (arith, ap length next.2.joined, length-append next.2.front (path_of next.2.elements))),
        ),
        subst (λ (k : ℕ). PathRest k (at + 1) bs) (sym (byte_behind count b other)) next.2,
      )
]

in_front : (count at n b : ℕ) (bs : List ℕ) → count ≤ 28 → MayFollowBefore count n b → PathRest (count_behind count b) (at + 1) bs → PathRest count at (b ∷ bs)
in_front count at n b bs most (inl (slash, some, left)) rest =
    subst (λ (c : ℕ). PathRest count at (c ∷ bs)) (sym slash) (again_from count at bs some most (subst (λ (k : ℕ). PathRest k (at + 1) bs) (slash_behind count b slash) rest))
in_front count at n b bs most (inr (name, few, last)) rest = byte_from count at b bs name (subst (λ (k : ℕ). PathRest k (at + 1) bs) (byte_behind count b name.2) rest)

abbrev next_bytes : ℕ → ℕ → ℕ → Format (ℕ × List ℕ)
next_bytes n count at = both (one_of (MayFollowBefore count n)) (λ b. path_rest n (count_behind count b) (at + 1))

rest_back : (n count at : ℕ) (bytes : List ℕ) → (path_rest (suc n) count at).Is bytes → (next_bytes n count at).Is (apart 47 bytes)
rest_back n count at [] is = absurd (omega (arith, is.0))
rest_back n count at (b ∷ bs) is =
    let long : length bs ≡ n = omega (arith, is.0) in
    let next = behind_next count at b bs is.1 in
    (subst (λ (k : ℕ). MayFollowBefore count k b) long next.0, (long, next.1))

rest_restored : (n count at : ℕ) (bytes : List ℕ) → (path_rest (suc n) count at).Is bytes → (apart 47 bytes).0 ∷ (apart 47 bytes).1 ≡ bytes
rest_restored n count at [] is = absurd (omega (arith, is.0))
rest_restored n count at (b ∷ bs) is = refl

rest_same : (n count at : ℕ) (bytes : List ℕ) → (path_rest (suc n) count at).Is bytes → bytes ≡ (next_bytes n count at).spelled (apart 47 bytes)
rest_same n count at [] is = absurd (omega (arith, is.0))
rest_same n count at (b ∷ bs) is = refl

unfoldable like_rest : (n count at : ℕ) → count ≤ 28 → Like (next_bytes n count at) (path_rest (suc n) count at)
like_rest n count at most = record {
  to = λ p. p.0 ∷ p.1;
  from = apart 47;
  there = λ p is. (omega (arith, is.1.0), in_front count at n p.0 p.1 most is.0 is.1.1);
  back = rest_back n count at;
  again = λ p is. refl;
  restored = rest_restored n count at;
  same = rest_same n count at;
}

some_so_far : (count : ℕ) → CanEnd count 0 → 0 < count
some_so_far count can = elim (cases_eq count 0) [ inl none ↦ absurd (omega (arith, can.begun none)) | inr some ↦ omega arith ]

reads_rest : (left count at : ℕ) → CanEnd count left → at + left ≤ 256 → Reads (path_rest left count at) (read_path_rest left count)
unfolding read_path_rest like_rest
reads_rest zero count at can short =
    let none = no_rest count at (some_so_far count can) can.most (omega (arith, short)) in
    record { sole = sole_rest 0 count at; has = record { value = []; is = (refl, none) }; answers = λ bytes. record { is = (refl, none); joined = refl } }
reads_rest (suc n) count at can short =
    let next = next_of count n can in
    reads_like (next_bytes n count at) (path_rest (suc n) count at) (read_both (read_byte (may_follow count n)) (λ b. read_path_rest n (count_behind count b))) (like_rest n count at can.most)
    (reads_both (one_of (MayFollowBefore count n)) (λ b. path_rest n (count_behind count b) (at + 1)) (read_byte (may_follow count n)) (λ b. read_path_rest n (count_behind count b))
    (reads_byte (MayFollowBefore count n) (may_follow count n) next.byte next.may (follows count n) (may count n))
    (λ b is. reads_rest n (count_behind count b) (at + 1) (can_next count n b is) (omega (arith, short))))

-- ---- a path

abbrev slashed : ℕ → Format (ℕ × List ℕ)
slashed n = pair (one_of (λ b. b ≡ 47)) (path_rest (n - 1) 0 1)

path_there : (n b : ℕ) (bs : List ℕ) → 2 ≤ n → b ≡ 47 → length bs ≡ n - 1 → PathRest 0 1 bs → (stated n IsLevelPath).Is (b ∷ bs)
path_there n b bs some slash long rest = (subst (λ (c : ℕ). IsLevelPath (c ∷ bs)) (sym slash) ((slash_first bs).1 rest), omega (arith, long, some))

path_back : (n : ℕ) (text : List ℕ) → 2 ≤ n → (stated n IsLevelPath).Is text → (slashed n).Is (apart 47 text)
path_back n [] some is = absurd (omega (arith, some, is.1))
path_back n (b ∷ bs) some is =
    let slash : b ≡ 47 = first_is_slash b bs is.0 in
    (slash, (omega (arith, is.1), (slash_first bs).0 (subst (λ (c : ℕ). IsLevelPath (c ∷ bs)) slash is.0)))

path_restored : (n : ℕ) (text : List ℕ) → 2 ≤ n → (stated n IsLevelPath).Is text → (apart 47 text).0 ∷ (apart 47 text).1 ≡ text
path_restored n [] some is = absurd (omega (arith, some, is.1))
path_restored n (b ∷ bs) some is = refl

path_same : (n : ℕ) (text : List ℕ) → 2 ≤ n → (stated n IsLevelPath).Is text → text ≡ (slashed n).spelled (apart 47 text)
path_same n [] some is = absurd (omega (arith, some, is.1))
path_same n (b ∷ bs) some is = refl

unfoldable like_path : (n : ℕ) → 2 ≤ n → Like (slashed n) (stated n IsLevelPath)
like_path n some = record {
  to = λ p. p.0 ∷ p.1;
  from = apart 47;
  there = λ p is. path_there n p.0 p.1 some is.0 is.1.0 is.1.1;
  back = λ text is. path_back n text some is;
  again = λ p is. refl;
  restored = λ text is. path_restored n text some is;
  same = λ text is. path_same n text some is;
}

pub reads_path : (n : ℕ) → 2 ≤ n → n ≤ 256 → Reads (stated n IsLevelPath) (read_path n)
unfolding read_path like_path
reads_path n some short =
    reads_like (slashed n) (stated n IsLevelPath) (read_pair (read_byte (λ b. b == 47)) (read_path_rest (n - 1) 0)) (like_path n some)
    (reads_pair (one_of (λ b. b ≡ 47)) (path_rest (n - 1) 0 1) (read_byte (λ b. b == 47)) (read_path_rest (n - 1) 0)
    (reads_byte (λ b. b ≡ 47) (λ b. b == 47) 47 refl (λ b e. eqb-true b 47 e) (λ b e. eq-eqb b 47 e))
    (reads_rest (n - 1) 0 1 (can_slash (n - 1) (omega arith)) (omega arith)))
