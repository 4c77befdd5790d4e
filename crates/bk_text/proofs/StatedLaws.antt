-- Texts of a length that is known, byte by byte.
use Rattle.std.proofs.Common.{zero, suc, inl, inr, ◌⊎◌, lit<, lit≤, ◌≡◌, ◌≢◌, ℕ, ◌+◌, ◌-◌, ◌<◌, ◌≤◌, List, [], ◌∷◌, ◌++◌, length, take, get_or, replicate, refl, sym, ap, subst, ◌∙◌, arith, length-append}
use Rattle.std.specs.Prelude.{All}
use Rattle.std.proofs.lemmas.Bool.{cases_eq, cases_lt}
use Rattle.std.proofs.lemmas.List.{length-take-le, length-replicate, get_or-replicate, get_or_append_left, get_or-take, take_all}
use Rattle.std.proofs.lemmas.List.Elements.{All-nil, All-head, All-append, All-replicate}
use Rattle.bk_text.specs.Places.{Begun, FailsAt, OfLength}
use Rattle.bk_text.specs.Alphabets.{IsNameByte, IsElement}
use Rattle.bk_text.specs.Words.{Allowed, AllowedFirst, IsWordOf, MayStand}
use Rattle.bk_text.specs.LevelPaths.{path_of, IsLevelPath, MayFollowBefore}
use Rattle.bk_text.specs.declared.words.Alphabet.{Alphabet}
use Rattle.bk_text.proofs.Fails.{stops_at}
use Rattle.bk_text.proofs.WordLaws.{Goes, word_fails, a_allowed, a_first}
use Rattle.bk_text.proofs.LevelLaws.{PathRest, GoesPath, again, again_from, one_more, byte_from, next_byte, path_begins, path_slash_more, path_byte_more, first_is_slash}

-- ---- words

filled_first : (alphabet : Alphabet) (most n at : ℕ) (text : List ℕ) → 0 < n → at ≤ n → at ≤ length text → Goes alphabet most at text → AllowedFirst alphabet (get_or (take at text ++ replicate (n - at) 97) 0 0)
filled_first alphabet most n zero text some small within goes = subst (AllowedFirst alphabet) (sym (get_or-replicate (n - 0) 0 97 0 (omega arith))) (a_first alphabet)
filled_first alphabet most n (suc k) text some small within goes =
    let front : length (take (suc k) text) ≡ suc k = length-take-le (suc k) text within in
    subst (AllowedFirst alphabet) (sym (get_or_append_left (take (suc k) text) (replicate (n - suc k) 97) 0 0 (omega arith) ∙ get_or-take (suc k) text 0 0 (omega arith))) (goes.first (omega arith))

-- the letter a fills it up
filled : (alphabet : Alphabet) (most n at : ℕ) (text : List ℕ) → 0 < n → n ≤ most → at ≤ n → at ≤ length text → Goes alphabet most at text → Begun (OfLength n (IsWordOf alphabet most)) (take at text)
filled alphabet most n at text some fits small within goes =
    let rest : List ℕ = replicate (n - at) 97 in
    let long : length (take at text ++ rest) ≡ n = omega (arith, length-append (take at text) rest, length-take-le at text within, length-replicate {A = ℕ} (n - at) 97) in (
      rest,
      (
        record {
          some = omega arith;
          short = omega arith;
          first = filled_first alphabet most n at text some small within goes;
          each = All-append (Allowed alphabet) (take at text) rest goes.each (All-replicate (Allowed alphabet) (n - at) 97 (a_allowed alphabet));
        },
        long,
      ),
    )

pub word_begun : (alphabet : Alphabet) (most n at : ℕ) (text : List ℕ) → 0 < n → n ≤ most → length text ≤ n → at ≡ length text → Goes alphabet most at text → Begun (OfLength n (IsWordOf alphabet most)) text
word_begun alphabet most n at text some fits within all goes =
    subst (Begun (OfLength n (IsWordOf alphabet most))) (take_all at text (omega arith)) (filled alphabet most n at text some fits (omega arith) (omega arith) goes)

pub word_stuck : (alphabet : Alphabet) (most n at : ℕ) (text : List ℕ) → 0 < n → n ≤ most → length text ≤ n → at < length text → Goes alphabet most at text → (MayStand alphabet most at (get_or text at 0) → ⊥)
    → (at < length text) × FailsAt (OfLength n (IsWordOf alphabet most)) text at
word_stuck alphabet most n at text some fits within lt goes may_not =
    let fails : FailsAt (IsWordOf alphabet most) text at = word_fails alphabet most at text (omega arith) lt goes may_not in
    (lt, stops_at (OfLength n (IsWordOf alphabet most)) text at lt (filled alphabet most n at text some fits (omega arith) (omega arith) goes) (λ (rest, is). fails.here lt (rest, is.0)))

-- ---- paths

-- so many bytes can end a path where its element has so many bytes so far
pub record CanEnd (count left : ℕ) : Type 0 where
  pub most : count ≤ 28
  pub begun : count ≡ 0 → 0 < left
  pub full : count ≡ 28 → left ≡ 1 → ⊥

letter : IsNameByte 97
letter = (lit< tt, lit< tt, λ (e : 97 ≡ 47). omega arith)

no_rest : (count at : ℕ) → 0 < count → count ≤ 28 → at ≤ 256 → PathRest count at []
no_rest count at some most short = record {
  front = [];
  elements = [];
  each_byte = All-nil IsNameByte;
  some = omega arith;
  most = omega arith;
  each = All-nil IsElement;
  joined = refl;
  short = omega arith;
}

-- a slash stands next where the element is full, or would leave one byte
record Slash (count n : ℕ) : Type 0 where
  some : 0 < count
  left : 0 < n

next_is : (count n : ℕ) → CanEnd count (suc n) → Slash count n ⊎ CanEnd (count + 1) n
next_is count n can = elim (cases_lt count 27) [
  | inl small ↦ inr (record { most = omega arith; begun = λ e. absurd (omega arith); full = λ e _. omega arith })
  | inr big ↦ elim (cases_eq count 27) [
    | inl last ↦ elim (cases_eq n 1) [
      | inl one ↦ inl (record { some = omega arith; left = omega arith })
      | inr other ↦ inr (record { most = omega arith; begun = λ e. absurd (omega arith); full = λ _ e. other e })
    ]
    | inr full ↦ inl (record { some = omega arith; left = left_of (omega (arith, can.most)) })
  ]
]
  where
    left_of : count ≡ 28 → 0 < n
    left_of is = elim (cases_eq n 0) [ inl none ↦ absurd (can.full is (omega (arith, none))) | inr some ↦ omega arith ]

-- bytes that end a path
path_some : (left count at : ℕ) → CanEnd count left → at + left ≤ 256 → (bytes : List ℕ) × (length bytes ≡ left) × PathRest count at bytes
path_some zero count at can short = ([], refl, no_rest count at (first can) can.most (omega arith))
  where
    first : CanEnd count zero → 0 < count
    first can = elim (cases_eq count 0) [ inl none ↦ absurd (omega (arith, can.begun none)) | inr some ↦ omega arith ]
path_some (suc n) count at can short = elim (next_is count n can) [
  | inl slash ↦
      let r = path_some n 0 (at + 1) (record { most = lit≤ tt; begun = λ _. slash.left; full = λ (e : 0 ≡ 28). absurd (omega arith) }) (omega arith) in
      (47 ∷ r.0, ap (λ (k : ℕ). suc k) r.1, again_from count at r.0 slash.some can.most r.2)
  | inr more ↦
      let r = path_some n (count + 1) (at + 1) more (omega arith) in
      (97 ∷ r.0, ap (λ (k : ℕ). suc k) r.1, byte_from count at 97 r.0 letter r.2)
]

-- what a path of this length has next
one_byte_path : (elements : List (List ℕ)) → All IsElement elements → length (path_of elements) ≡ 1 → ⊥
one_byte_path [] each long = omega arith
one_byte_path (e ∷ es) each long =
    let is : IsElement e = All-head IsElement e es each in
    omega (arith, is.some, length-append (47 ∷ e) (path_of es))

follows_next : (count at b : ℕ) (bs : List ℕ) → PathRest count at (b ∷ bs) → MayFollowBefore count (length bs) b
follows_next count at b bs rest = elim (cases_eq b 47) [
  | inl slash ↦
      let next = again count at bs (subst (λ (c : ℕ). PathRest count at (c ∷ bs)) slash rest) in
      inl (slash, next.0, omega (arith, next.1.some, ap length next.1.joined, length-append next.1.front (path_of next.1.elements)))
  | inr other ↦
      let next = one_more count at b bs other rest in
      inr (
        next.0,
        next.1,
        λ last one.
            let none : length next.2.front ≡ 0 = omega (arith, next.2.most) in
            one_byte_path next.2.elements next.2.each (omega (arith, ap length next.2.joined, length-append next.2.front (path_of next.2.elements))),
      )
]

-- the bytes before a place of a path of n bytes
pub record GoesOn (n count at : ℕ) (text : List ℕ) : Type 0 where
  pub goes : GoesPath count at text
  pub can : CanEnd count (n - at)

pub begins : (n : ℕ) (text : List ℕ) → 0 < length text → 2 ≤ n → n ≤ 256 → get_or text 0 0 ≡ 47 → GoesOn n 0 1 text
begins n text some long short slash = record {
  goes = path_begins text (omega arith) slash;
  can = record { most = lit≤ tt; begun = λ _. omega arith; full = λ (e : 0 ≡ 28). absurd (omega arith) };
}

pub goes_slash : (n count at : ℕ) (text : List ℕ) → at < length text → n ≤ 256 → length text ≤ n → GoesOn n count at text → get_or text at 0 ≡ 47 → MayFollowBefore count (n - at - 1) 47 → GoesOn n 0 (at + 1) text
goes_slash n count at text lt short within g slash (inl (same, some, left)) = record {
  goes = path_slash_more count at text lt g.goes slash (inl (same, some, omega arith));
  can = record { most = lit≤ tt; begun = λ _. omega arith; full = λ (e : 0 ≡ 28). absurd (omega arith) };
}
goes_slash n count at text lt short within g slash (inr may) = absurd (may.0.2 refl)

pub goes_byte : (n count at b : ℕ) (text : List ℕ) → at < length text → n ≤ 256 → length text ≤ n → GoesOn n count at text → get_or text at 0 ≡ b → b ≢ 47 → MayFollowBefore count (n - at - 1) b → GoesOn n (count + 1) (at + 1) text
goes_byte n count at b text lt short within g is other (inl may) = absurd (other may.0)
goes_byte n count at b text lt short within g is other (inr (name, most, last)) = record {
  goes = path_byte_more count at b text lt g.goes is other (inr (name, most, omega arith));
  can = record { most = omega arith; begun = λ e. absurd (omega arith); full = λ full one. last (omega arith) (omega arith) };
}

-- some path of n bytes begins so
filled_path : (n count at : ℕ) (text : List ℕ) → n ≤ 256 → at ≤ n → at ≤ length text → GoesOn n count at text → Begun (OfLength n IsLevelPath) (take at text)
filled_path n count at text short small within g =
    let r = path_some (n - at) count at g.can (omega arith) in
    (r.0, (g.goes.from r.0 r.2, omega (arith, length-append (take at text) r.0, length-take-le at text within, r.1)))

pub path_begun : (n count at : ℕ) (text : List ℕ) → n ≤ 256 → length text ≤ n → length text ≤ at → at ≤ length text → GoesOn n count at text → Begun (OfLength n IsLevelPath) text
path_begun n count at text short within low high g =
    subst (Begun (OfLength n IsLevelPath)) (take_all at text low) (filled_path n count at text short (omega arith) high g)

pub path_stuck : (n count at b : ℕ) (text : List ℕ) → at < length text → n ≤ 256 → length text ≤ n → GoesOn n count at text → get_or text at 0 ≡ b → (MayFollowBefore count (n - at - 1) b → ⊥)
    → (at < length text) × FailsAt (OfLength n IsLevelPath) text at
path_stuck n count at b text lt short within g is not = (lt, stops_at (OfLength n IsLevelPath) text at lt (filled_path n count at text short (omega arith) (omega arith) g) go)
  where
    go : Begun (OfLength n IsLevelPath) (take (at + 1) text) → ⊥
    go (rest, (form, long)) =
        let left : PathRest count at (b ∷ rest) = g.goes.to (b ∷ rest) (subst IsLevelPath (next_byte at b text rest lt is) form) in
        let count_left : length rest ≡ n - at - 1 = omega (arith, length-append (take (at + 1) text) rest, length-take-le (at + 1) text (omega arith), long) in
        not (subst (λ (k : ℕ). MayFollowBefore count k b) count_left (follows_next count at b rest left))

-- a path of this many bytes
path_long : (n : ℕ) → 2 ≤ n → n ≤ 256 → (v : List ℕ) × (length v ≡ n) × IsLevelPath v
path_long n some short =
    let r = path_some (n - 1) 0 1 (record { most = lit≤ tt; begun = λ _. omega arith; full = λ (e : 0 ≡ 28). absurd (omega arith) }) (omega arith) in
    let goes : GoesPath 0 1 (47 ∷ r.0) = path_begins (47 ∷ r.0) (omega arith) refl in
    (47 ∷ r.0, omega (arith, r.1), goes.from r.0 r.2)

pub path_begun_empty : (n : ℕ) (text : List ℕ) → 2 ≤ n → n ≤ 256 → length text ≡ 0 → Begun (OfLength n IsLevelPath) text
path_begun_empty n [] some short none = let v = path_long n some short in (v.0, (v.2, v.1))
path_begun_empty n (b ∷ bs) some short none = absurd (omega arith)

-- the first byte
pub first_stuck : (n : ℕ) (text : List ℕ) → 0 < length text → 2 ≤ n → n ≤ 256 → length text ≤ n → (get_or text 0 0 ≡ 47 → ⊥) → (0 < length text) × FailsAt (OfLength n IsLevelPath) text 0
first_stuck n [] some long short within not = absurd (omega arith)
first_stuck n (b ∷ bs) some long short within not =
    (omega arith, stops_at (OfLength n IsLevelPath) (b ∷ bs) 0 (omega arith) (path_begun_empty n [] long short refl) (λ (rest, is). not (first_is_slash b rest is.0)))
