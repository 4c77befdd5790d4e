-- Level paths byte by byte: what is still to come of one.
use Rattle.std.proofs.Common.{zero, suc, ◌≡◌, ◌≢◌, ℕ, ◌+◌, ◌<◌, ◌≤◌, List, [], ◌∷◌, ◌++◌, length, take, get_or, refl, sym, ◌∙◌, ap, subst, arith, length-append, append_assoc, lit<, inl, inr}
use Rattle.std.specs.Prelude.{All, ◌↔◌}
use Rattle.std.proofs.lemmas.List.{take_all, append-nil, take_more}
use Rattle.std.proofs.lemmas.List.Elements.{All-cons, All-nil, All-head, All-tail}
use Rattle.std.proofs.lemmas.Bool.{cases_eq}
use Rattle.bk_text.specs.Places.{Begun, FailsAt}
use Rattle.bk_text.specs.Alphabets.{IsNameByte, IsElement}
use Rattle.bk_text.specs.LevelPaths.{path_of, IsLevelPath, MayFollow}
use Rattle.bk_text.proofs.Fails.{stops_at, ends_early}

-- What is still to come where an element has so many bytes so far: the rest of it, and more elements.
pub record PathRest (count at : ℕ) (bytes : List ℕ) : Type 0 where
  pub front : List ℕ
  pub elements : List (List ℕ)
  pub each_byte : All IsNameByte front
  pub some : 0 < count + length front
  pub most : count + length front ≤ 28
  pub each : All IsElement elements
  pub joined : bytes ≡ front ++ path_of elements
  pub short : at + length bytes ≤ 256

element_of : (front : List ℕ) → All IsNameByte front → 0 < length front → length front ≤ 28 → IsElement front
element_of front each some most = record { some = some; short = most; first = tt; each = each }

-- the first slash
slash_to : (bs : List ℕ) (elements : List (List ℕ)) → 0 < length elements → length (47 ∷ bs) ≤ 256 → All IsElement elements → 47 ∷ bs ≡ path_of elements → PathRest 0 1 bs
slash_to bs [] some short each joined = absurd (omega arith)
slash_to bs (e ∷ es) some short each joined =
    let is : IsElement e = All-head IsElement e es each in
    record {
      front = e;
      elements = es;
      each_byte = is.each;
      some = omega (arith, is.some);
      most = omega (arith, is.short);
      each = All-tail IsElement e es each;
      joined = cc;
      short = omega arith;
    }

slash_from : (bs : List ℕ) → PathRest 0 1 bs → IsLevelPath (47 ∷ bs)
slash_from bs rest = record {
  elements = rest.front ∷ rest.elements;
  some = omega arith;
  short = omega (arith, rest.short);
  is = record {
    each = All-cons IsElement rest.front rest.elements (element_of rest.front rest.each_byte (omega (arith, rest.some)) (omega (arith, rest.most))) rest.each;
    joined = ap (λ (l : List ℕ). 47 ∷ l) rest.joined;
  };
}

pub slash_first : (bs : List ℕ) → IsLevelPath (47 ∷ bs) ↔ PathRest 0 1 bs
slash_first bs = (λ path. slash_to bs path.elements path.some path.short path.is.each path.is.joined, slash_from bs)

-- no other byte is first
path_slash : (b : ℕ) (bs : List ℕ) (elements : List (List ℕ)) → 0 < length elements → b ∷ bs ≡ path_of elements → b ≡ 47
path_slash b bs [] some joined = absurd (omega arith)
path_slash b bs (e ∷ es) some joined = cc

pub first_is_slash : (b : ℕ) (bs : List ℕ) → IsLevelPath (b ∷ bs) → b ≡ 47
first_is_slash b bs path = path_slash b bs path.elements path.some path.is.joined

-- a slash behind an element
again_to : (count at : ℕ) (bs front : List ℕ) (elements : List (List ℕ)) → All IsNameByte front → 0 < count + length front → All IsElement elements → 47 ∷ bs ≡ front ++ path_of elements → at + length (47 ∷ bs) ≤ 256 → (0 < count) × PathRest 0 (at + 1) bs
again_to count at bs [] [] each_byte some each joined short = absurd cc
again_to count at bs [] (e ∷ es) each_byte some each joined short =
    let is : IsElement e = All-head IsElement e es each in (
      omega arith,
      record {
        front = e;
        elements = es;
        each_byte = is.each;
        some = omega (arith, is.some);
        most = omega (arith, is.short);
        each = All-tail IsElement e es each;
        joined = cc;
        short = omega arith;
      },
    )
again_to count at bs (c ∷ cs) elements each_byte some each joined short =
    let is : IsNameByte c = All-head IsNameByte c cs each_byte in
    let slash : c ≡ 47 = cc in
    absurd (is.2 slash)

pub again_from : (count at : ℕ) (bs : List ℕ) → 0 < count → count ≤ 28 → PathRest 0 (at + 1) bs → PathRest count at (47 ∷ bs)
again_from count at bs some most rest = record {
  front = [];
  elements = rest.front ∷ rest.elements;
  each_byte = All-nil IsNameByte;
  some = omega arith;
  most = omega arith;
  each = All-cons IsElement rest.front rest.elements (element_of rest.front rest.each_byte (omega (arith, rest.some)) (omega (arith, rest.most))) rest.each;
  joined = ap (λ (l : List ℕ). 47 ∷ l) rest.joined;
  short = omega (arith, rest.short);
}

-- one more byte of the element
byte_to : (count at b : ℕ) (bs front : List ℕ) (elements : List (List ℕ)) → b ≢ 47 → All IsNameByte front → count + length front ≤ 28 → All IsElement elements → b ∷ bs ≡ front ++ path_of elements → at + length (b ∷ bs) ≤ 256 → IsNameByte b × (count < 28) × PathRest (count + 1) (at + 1) bs
byte_to count at b bs [] [] other each_byte most each joined short = absurd cc
byte_to count at b bs [] (e ∷ es) other each_byte most each joined short = let slash : b ≡ 47 = cc in absurd (other slash)
byte_to count at b bs (c ∷ cs) elements other each_byte most each joined short =
    let same : c ≡ b = cc in (
      subst IsNameByte same (All-head IsNameByte c cs each_byte),
      omega arith,
      record {
        front = cs;
        elements = elements;
        each_byte = All-tail IsNameByte c cs each_byte;
        some = omega arith;
        most = omega arith;
        each = each;
        joined = cc;
        short = omega arith;
      },
    )

pub byte_from : (count at b : ℕ) (bs : List ℕ) → IsNameByte b → PathRest (count + 1) (at + 1) bs → PathRest count at (b ∷ bs)
byte_from count at b bs is rest = record {
  front = b ∷ rest.front;
  elements = rest.elements;
  each_byte = All-cons IsNameByte b rest.front is rest.each_byte;
  some = omega arith;
  most = omega (arith, rest.most);
  each = rest.each;
  joined = ap (λ (l : List ℕ). b ∷ l) rest.joined;
  short = omega (arith, rest.short);
}

-- so far it is a path, but for what is still to come
pub record GoesPath (count at : ℕ) (text : List ℕ) : Type 0 where
  pub most : count ≤ 28
  pub short : at ≤ 256
  pub room : count ≡ 0 → at < 256
  pub to : (rest : List ℕ) → IsLevelPath (take at text ++ rest) → PathRest count at rest
  pub from : (rest : List ℕ) → PathRest count at rest → IsLevelPath (take at text ++ rest)

front_of_first : (text rest : List ℕ) → 0 < length text → get_or text 0 0 ≡ 47 → take 1 text ++ rest ≡ 47 ∷ rest
front_of_first [] rest some slash = absurd (omega arith)
front_of_first (b ∷ bs) rest some slash = ap (λ (c : ℕ). c ∷ rest) slash

pub path_begins : (text : List ℕ) → 0 < length text → get_or text 0 0 ≡ 47 → GoesPath 0 1 text
path_begins text some slash = record {
  most = omega arith;
  short = omega arith;
  room = λ _. omega arith;
  to = λ rest path. (slash_first rest).0 (subst IsLevelPath (front_of_first text rest some slash) path);
  from = λ rest more. subst IsLevelPath (sym (front_of_first text rest some slash)) ((slash_first rest).1 more);
}

-- the next byte, and what stands behind it
pub next_byte : (at b : ℕ) (text rest : List ℕ) → at < length text → get_or text at 0 ≡ b → take (at + 1) text ++ rest ≡ take at text ++ (b ∷ rest)
next_byte at b text rest within is = ap (λ (l : List ℕ). l ++ rest) (take_more text at 0 within) ∙ append_assoc (take at text) (get_or text at 0 ∷ []) rest ∙ ap (λ (c : ℕ). take at text ++ (c ∷ rest)) is

pub again : (count at : ℕ) (bs : List ℕ) → PathRest count at (47 ∷ bs) → (0 < count) × PathRest 0 (at + 1) bs
again count at bs rest = again_to count at bs rest.front rest.elements rest.each_byte rest.some rest.each rest.joined rest.short

pub one_more : (count at b : ℕ) (bs : List ℕ) → b ≢ 47 → PathRest count at (b ∷ bs) → IsNameByte b × (count < 28) × PathRest (count + 1) (at + 1) bs
one_more count at b bs other rest = byte_to count at b bs rest.front rest.elements other rest.each_byte rest.most rest.each rest.joined rest.short

pub path_slash_more : (count at : ℕ) (text : List ℕ) → at < length text → GoesPath count at text → get_or text at 0 ≡ 47 → MayFollow count at 47 → GoesPath 0 (at + 1) text
path_slash_more count at text within goes slash (inr may) = absurd (may.0.2 refl)
path_slash_more count at text within goes slash (inl (same, some, room)) = record {
  most = omega arith;
  short = omega arith;
  room = λ _. omega arith;
  to = λ rest path. (again count at rest (goes.to (47 ∷ rest) (subst IsLevelPath (next_byte at 47 text rest within slash) path))).1;
  from = λ rest more. subst IsLevelPath (sym (next_byte at 47 text rest within slash)) (goes.from (47 ∷ rest) (again_from count at rest some goes.most more));
}

pub path_byte_more : (count at b : ℕ) (text : List ℕ) → at < length text → GoesPath count at text → get_or text at 0 ≡ b → b ≢ 47 → MayFollow count at b → GoesPath (count + 1) (at + 1) text
path_byte_more count at b text within goes is other (inl may) = absurd (other may.0)
path_byte_more count at b text within goes is other (inr (name, most, short)) = record {
  most = omega arith;
  short = omega arith;
  room = λ (none : count + 1 ≡ 0). absurd (omega arith);
  to = λ rest path. (one_more count at b rest other (goes.to (b ∷ rest) (subst IsLevelPath (next_byte at b text rest within is) path))).2;
  from = λ rest more. subst IsLevelPath (sym (next_byte at b text rest within is)) (goes.from (b ∷ rest) (byte_from count at b rest name more));
}

-- what may stand next is what a path has there
rest_follows : (count at b : ℕ) (bs : List ℕ) → PathRest count at (b ∷ bs) → MayFollow count at b
rest_follows count at b bs rest = elim (cases_eq b 47) [
  | inl slash ↦
      let next = again count at bs (subst (λ (c : ℕ). PathRest count at (c ∷ bs)) slash rest) in
      inl (slash, next.0, omega (arith, next.1.some, ap length next.1.joined, next.1.short, length-append next.1.front (path_of next.1.elements)))
  | inr other ↦ let next = one_more count at b bs other rest in inr (next.0, next.1, omega (arith, rest.short))
]

-- so far it begins a path
letter : IsNameByte 97
letter = (lit< tt, lit< tt, λ (e : 97 ≡ 47). omega arith)

pub goes_begun_path : (count at : ℕ) (text : List ℕ) → GoesPath count at text → Begun IsLevelPath (take at text)
goes_begun_path zero at text goes = (
  97 ∷ [],
  goes.from (97 ∷ []) (record {
    front = 97 ∷ [];
    elements = [];
    each_byte = All-cons IsNameByte 97 [] letter (All-nil IsNameByte);
    some = omega arith;
    most = omega arith;
    each = All-nil IsElement;
    joined = refl;
    short = omega (arith, goes.room refl);
  }),
)
goes_begun_path (suc n) at text goes = (
  [],
  goes.from [] (record {
    front = [];
    elements = [];
    each_byte = All-nil IsNameByte;
    some = omega arith;
    most = omega (arith, goes.most);
    each = All-nil IsElement;
    joined = refl;
    short = omega (arith, goes.short);
  }),
)

pub path_fails : (count at b : ℕ) (text : List ℕ) → at < length text → GoesPath count at text → get_or text at 0 ≡ b → (MayFollow count at b → ⊥) → FailsAt IsLevelPath text at
path_fails count at b text within goes is may_not =
    stops_at IsLevelPath text at within (goes_begun_path count at text goes) (λ (rest, path).
    may_not (rest_follows count at b rest (goes.to (b ∷ rest) (subst IsLevelPath (next_byte at b text rest within is) path))))

-- nothing is still to come exactly where the last element has a byte
pub path_whole : (count : ℕ) (text : List ℕ) → 0 < count → GoesPath count (length text) text → IsLevelPath text
path_whole count text some goes = subst IsLevelPath (append-nil _ ∙ take_all (length text) text (omega arith)) (goes.from [] (record {
  front = [];
  elements = [];
  each_byte = All-nil IsNameByte;
  some = omega arith;
  most = omega (arith, goes.most);
  each = All-nil IsElement;
  joined = refl;
  short = omega (arith, goes.short);
}))

nothing_left : (front : List ℕ) (elements : List (List ℕ)) → [] ≡ front ++ path_of elements → length front ≡ 0
nothing_left [] elements joined = refl
nothing_left (c ∷ cs) elements joined = absurd cc

pub path_unended : (text : List ℕ) → GoesPath 0 (length text) text → FailsAt IsLevelPath text (length text)
path_unended text goes =
    let all : take (length text) text ≡ text = take_all (length text) text (omega arith) in
    ends_early IsLevelPath text (subst (Begun IsLevelPath) all (goes_begun_path 0 (length text) text goes)) (λ path.
    let rest : PathRest 0 (length text) [] = goes.to [] (subst IsLevelPath (sym (append-nil _ ∙ all)) path) in
    absurd (omega (arith, rest.some, nothing_left rest.front rest.elements rest.joined)))

nothing_joined : (elements : List (List ℕ)) → 0 < length elements → [] ≡ path_of elements → ⊥
nothing_joined [] some joined = omega arith
nothing_joined (e ∷ es) some joined = cc

-- a path has a first byte, which is a slash
pub short_path : IsLevelPath (47 ∷ 97 ∷ [])
short_path = slash_from (97 ∷ []) (record {
  front = 97 ∷ [];
  elements = [];
  each_byte = All-cons IsNameByte 97 [] letter (All-nil IsNameByte);
  some = omega arith;
  most = omega arith;
  each = All-nil IsElement;
  joined = refl;
  short = omega arith;
})

pub no_path : (text : List ℕ) → length text ≡ 0 → FailsAt IsLevelPath text 0
no_path [] none = ends_early IsLevelPath [] (47 ∷ 97 ∷ [], short_path) (λ path. absurd (nothing_joined path.elements path.some path.is.joined))
no_path (b ∷ bs) none = absurd (omega arith)

pub no_slash : (text : List ℕ) → 0 < length text → get_or text 0 0 ≢ 47 → FailsAt IsLevelPath text 0
no_slash [] some other = absurd (omega arith)
no_slash (b ∷ bs) some other = stops_at IsLevelPath (b ∷ bs) 0 (omega arith) (47 ∷ 97 ∷ [], short_path) (λ (rest, path). other (first_is_slash b rest path))
