-- The tests of forms tell exactly the forms.
use Rattle.std.proofs.Common.{◌≡◌, ◌≢◌, ℕ, ◌<◌, ◌≤◌, List, [], ◌∷◌, ◌++◌, length, get_or, refl, sym, ◌∙◌, ap, subst, arith, inl, inr, Bool, true, false, ◌==◌}
use Rattle.std.specs.Prelude.{◌↔◌, ◌&&◌, not, nat_lt, nat_le, slice_index, All, Option, Some, None, IsTrue, MatchOption, is_none, if◌then◌else◌}
use Rattle.std.specs.List.{list_all, slice_split, onto_first}
use Rattle.std.proofs.lemmas.List.Splits.{slice_split-cons_yes, slice_split-cons_no, length-slice_split}
use Rattle.std.proofs.lemmas.Bool.{eqb-true, eqb-false, eq-eqb, ne_eqb, le-leb, leb-true, lt-ltb, ltb-true, and_parts, and_from, not-true, not_from_false, false≢true}
use Rattle.std.proofs.lemmas.List.Elements.{All-head, All-tail, All-cons, All-nil}
use Rattle.bk_text.specs.declared.words.Alphabet.{Alphabet}
use Rattle.bk_text.specs.declared.words.Alphabet.TheVariants.{Plain, NoPeriod, AnyFirst, Printable}
use Rattle.bk_text.specs.Alphabets.{IsNameByte, IsName, IsElement}
use Rattle.bk_text.specs.LevelPaths.{IsLevelPath, path_of, elements_of}
use Rattle.bk_text.specs.Partitions.{IsPartText, without_slash}
use Rattle.bk_text.specs.Places.{FailsAt}
use Rattle.bk_text.specs.Words.{Allowed, AllowedFirst, IsWordOf}
use Rattle.bk_text.specs.Tests.{is_printable, is_name_byte, is_allowed, is_allowed_first, word_test, part_test, level_path_test}
use Rattle.bk_text.proofs.LevelParts.{first_slash, of_path}

differs : (a b : ℕ) → not (a == b) ≡ true → a ≢ b
differs a b e same = eqb-false a b (not-true (a == b) e) same

unequal : (a b : ℕ) → a ≢ b → not (a == b) ≡ true
unequal a b other = not_from_false (a == b) (ne_eqb a b other)

name_byte : (b : ℕ) → is_name_byte b ≡ true → IsNameByte b
name_byte b e =
    let p = and_parts (is_printable b) (not (b == 47)) e in
    let q = and_parts (nat_lt 32 b) (nat_lt b 127) p.0 in
    (ltb-true 32 b q.0, ltb-true b 127 q.1, differs b 47 p.1)

byte_name : (b : ℕ) → IsNameByte b → is_name_byte b ≡ true
byte_name b is = and_from (is_printable b) (not (b == 47)) (and_from (nat_lt 32 b) (nat_lt b 127) (lt-ltb 32 b is.0) (lt-ltb b 127 is.1)) (unequal b 47 is.2)

allowed : (alphabet : Alphabet) (b : ℕ) → is_allowed alphabet b ≡ true → Allowed alphabet b
allowed Plain b e = name_byte b e
allowed NoPeriod b e = let p = and_parts (is_name_byte b) (not (b == 46)) e in (name_byte b p.0, differs b 46 p.1)
allowed AnyFirst b e = name_byte b e
allowed Printable b e = let p = and_parts (nat_lt 32 b) (nat_lt b 127) e in (ltb-true 32 b p.0, ltb-true b 127 p.1)

allows : (alphabet : Alphabet) (b : ℕ) → Allowed alphabet b → is_allowed alphabet b ≡ true
allows Plain b is = byte_name b is
allows NoPeriod b is = and_from (is_name_byte b) (not (b == 46)) (byte_name b is.0) (unequal b 46 is.1)
allows AnyFirst b is = byte_name b is
allows Printable b is = and_from (nat_lt 32 b) (nat_lt b 127) (lt-ltb 32 b is.0) (lt-ltb b 127 is.1)

allowed_first : (alphabet : Alphabet) (b : ℕ) → is_allowed_first alphabet b ≡ true → AllowedFirst alphabet b
allowed_first Plain b e = differs b 45 e
allowed_first NoPeriod b e = differs b 45 e
allowed_first AnyFirst b e = tt
allowed_first Printable b e = tt

allows_first : (alphabet : Alphabet) (b : ℕ) → AllowedFirst alphabet b → is_allowed_first alphabet b ≡ true
allows_first Plain b is = unequal b 45 is
allows_first NoPeriod b is = unequal b 45 is
allows_first AnyFirst b is = refl
allows_first Printable b is = refl

all_of : {X : Type 0} (p : X → Bool) (P : X → Type 0) → ((x : X) → p x ≡ true → P x) → (xs : List X) → list_all p xs ≡ true → All P xs
all_of p P each [] e = All-nil P
all_of p P each (x ∷ xs) e = let q = and_parts (p x) (list_all p xs) e in All-cons P x xs (each x q.0) (all_of p P each xs q.1)

of_all : {X : Type 0} (p : X → Bool) (P : X → Type 0) → ((x : X) → P x → p x ≡ true) → (xs : List X) → All P xs → list_all p xs ≡ true
of_all p P each [] all = refl
of_all p P each (x ∷ xs) all = and_from (p x) (list_all p xs) (each x (All-head P x xs all)) (of_all p P each xs (All-tail P x xs all))

pub word_of_test : (alphabet : Alphabet) (most : ℕ) (text : List ℕ) → word_test alphabet most text ≡ true → IsWordOf alphabet most text
unfolding word_test
word_of_test alphabet most text e =
    let p = and_parts (nat_lt 0 (length text)) (nat_le (length text) most && (is_allowed_first alphabet (slice_index text 0) && list_all (is_allowed alphabet) text)) e in
    let q = and_parts (nat_le (length text) most) (is_allowed_first alphabet (slice_index text 0) && list_all (is_allowed alphabet) text) p.1 in
    let r = and_parts (is_allowed_first alphabet (slice_index text 0)) (list_all (is_allowed alphabet) text) q.1 in
    record {
      some = ltb-true 0 (length text) p.0;
      short = leb-true (length text) most q.0;
      first = allowed_first alphabet (slice_index text 0) r.0;
      each = all_of (is_allowed alphabet) (Allowed alphabet) (allowed alphabet) text r.1;
    }

pub test_of_word : (alphabet : Alphabet) (most : ℕ) (text : List ℕ) → IsWordOf alphabet most text → word_test alphabet most text ≡ true
unfolding word_test
test_of_word alphabet most text is =
    and_from (nat_lt 0 (length text)) (nat_le (length text) most && (is_allowed_first alphabet (slice_index text 0) && list_all (is_allowed alphabet) text)) (lt-ltb 0 (length text) is.some)
    (and_from (nat_le (length text) most) (is_allowed_first alphabet (slice_index text 0) && list_all (is_allowed alphabet) text) (le-leb (length text) most is.short)
    (and_from (is_allowed_first alphabet (slice_index text 0)) (list_all (is_allowed alphabet) text) (allows_first alphabet (slice_index text 0) is.first)
    (of_all (is_allowed alphabet) (Allowed alphabet) (allows alphabet) text is.each)))

-- a test that holds exactly where a form does
same_test : (P : Type 0) (a b : Bool) → (a ≡ true → P) → (P → a ≡ true) → (b ≡ true → P) → (P → b ≡ true) → a ≡ b
same_test P true true f g h k = refl
same_test P true false f g h k = absurd (false≢true (k (f refl)))
same_test P false true f g h k = absurd (false≢true (g (h refl)))
same_test P false false f g h k = refl

pub no_fault : (alphabet : Alphabet) (most : ℕ) (text : List ℕ) (fault : Option ℕ) → MatchOption fault (IsWordOf alphabet most text) (λ at. FailsAt (IsWordOf alphabet most) text at) → is_none fault ≡ word_test alphabet most text
no_fault alphabet most text None is = sym (test_of_word alphabet most text is)
no_fault alphabet most text (Some at) fails = go (word_test alphabet most text) refl where
  go : (t : Bool) → word_test alphabet most text ≡ t → false ≡ word_test alphabet most text
  go true e = absurd (fails.not_whole (word_of_test alphabet most text e))
  go false e = sym e

-- paths of levels
onto_path : (x : ℕ) (ps : List (List ℕ)) (xs : List ℕ) → 0 < length ps → path_of ps ≡ 47 ∷ xs → path_of (onto_first x ps) ≡ 47 ∷ (x ∷ xs)
onto_path x [] xs some e = absurd (omega arith)
onto_path x (q ∷ qs) xs some e = let rest : q ++ path_of qs ≡ xs = cc in ap (λ (l : List ℕ). 47 ∷ (x ∷ l)) rest

split_more : (x : ℕ) (xs : List ℕ) (t : Bool) → (x == 47) ≡ t → path_of (slice_split (λ b. b == 47) xs) ≡ 47 ∷ xs → path_of (slice_split (λ b. b == 47) (x ∷ xs)) ≡ 47 ∷ (x ∷ xs)
split_more x xs true e more =
    ap path_of (slice_split-cons_yes (λ b. b == 47) x xs e) ∙ ap (λ (l : List ℕ). 47 ∷ l) more ∙ ap (λ (c : ℕ). 47 ∷ (c ∷ xs)) (sym (eqb-true x 47 e))
split_more x xs false e more =
    ap path_of (slice_split-cons_no (λ b. b == 47) x xs e) ∙ onto_path x (slice_split (λ b. b == 47) xs) xs (omega (arith, length-slice_split (λ b. b == 47) xs)) more

split_path : (rest : List ℕ) → path_of (slice_split (λ b. b == 47) rest) ≡ 47 ∷ rest
split_path [] = refl
split_path (x ∷ xs) = split_more x xs (x == 47) refl (split_path xs)

path_from : (rest : List ℕ) → length (47 ∷ rest) ≤ 256 → list_all (word_test AnyFirst 28) (slice_split (λ b. b == 47) rest) ≡ true → IsLevelPath (47 ∷ rest)
path_from rest short each = record {
  elements = slice_split (λ b. b == 47) rest;
  some = omega (arith, length-slice_split (λ b. b == 47) rest);
  short = short;
  is = record { each = all_of (word_test AnyFirst 28) IsElement (word_of_test AnyFirst 28) (slice_split (λ b. b == 47) rest) each; joined = sym (split_path rest) };
}

parts_of : (text : List ℕ) → level_path_test text ≡ true → (get_or text 0 0 ≡ 47) × (length text ≤ 256) × (list_all (word_test AnyFirst 28) (elements_of text) ≡ true)
unfolding level_path_test
parts_of text e =
    let p = and_parts (slice_index text 0 == 47) (nat_le (length text) 256 && list_all (word_test AnyFirst 28) (elements_of text)) e in
    let q = and_parts (nat_le (length text) 256) (list_all (word_test AnyFirst 28) (elements_of text)) p.1 in
    (eqb-true (slice_index text 0) 47 p.0, leb-true (length text) 256 q.0, q.1)

no_zero : ◌≡◌ {A = ℕ} 0 47 → ⊥
no_zero e = omega arith

pub path_of_test : (text : List ℕ) → level_path_test text ≡ true → IsLevelPath text
path_of_test [] e = absurd (no_zero (parts_of [] e).0)
path_of_test (b ∷ rest) e =
    let p = parts_of (b ∷ rest) e in
    let same : b ≡ 47 = p.0 in
    subst (λ (c : ℕ). IsLevelPath (c ∷ rest)) (sym same) (path_from rest p.1 (subst (λ (c : ℕ). list_all (word_test AnyFirst 28) (elements_of (c ∷ rest)) ≡ true) same p.2))

pub test_of_path : (text : List ℕ) → IsLevelPath text → level_path_test text ≡ true
unfolding level_path_test
test_of_path text is =
    and_from (slice_index text 0 == 47) (nat_le (length text) 256 && list_all (word_test AnyFirst 28) (elements_of text)) (eq-eqb (slice_index text 0) 47 (first_slash text is))
    (and_from (nat_le (length text) 256) (list_all (word_test AnyFirst 28) (elements_of text)) (le-leb (length text) 256 is.short)
    (of_all (word_test AnyFirst 28) IsElement (test_of_word AnyFirst 28) (elements_of text) (of_path text is).each))

pub no_path_fault : (text : List ℕ) (fault : Option ℕ) → MatchOption fault (IsLevelPath text) (λ at. FailsAt IsLevelPath text at) → is_none fault ≡ level_path_test text
no_path_fault text None is = sym (test_of_path text is)
no_path_fault text (Some at) fails = go (level_path_test text) refl where
  go : (t : Bool) → level_path_test text ≡ t → false ≡ level_path_test text
  go true e = absurd (fails.not_whole (path_of_test text e))
  go false e = sym e

-- partitions
part_by : (b : ℕ) (rest : List ℕ) (t : Bool) → (b == 47) ≡ t → IsName (if t then rest else b ∷ rest) → IsPartText (b ∷ rest)
part_by b rest true e is = (rest, (is, inr (ap (λ (c : ℕ). c ∷ rest) (eqb-true b 47 e))))
part_by b rest false e is = (b ∷ rest, (is, inl refl))

pub part_of_name : (text : List ℕ) → IsName (without_slash text) → IsPartText text
part_of_name [] is = ([], (is, inl refl))
part_of_name (b ∷ rest) is = part_by b rest (b == 47) refl is

bare : (name : List ℕ) → IsName name → without_slash name ≡ name
bare [] is = refl
bare (b ∷ rest) is = ap (λ (t : Bool). if t then rest else b ∷ rest) (ne_eqb b 47 (All-head IsNameByte b rest is.each).2)

pub name_of_part : (text : List ℕ) → IsPartText text → IsName (without_slash text)
name_of_part text (name, (is, inl same)) = subst IsName (sym (ap without_slash same ∙ bare name is)) is
name_of_part text (name, (is, inr behind)) = subst IsName (sym (ap without_slash behind)) is

pub word_tells : (alphabet : Alphabet) (most : ℕ) (text : List ℕ) → IsTrue (word_test alphabet most text) ↔ IsWordOf alphabet most text
word_tells alphabet most text = (word_of_test alphabet most text, test_of_word alphabet most text)

pub path_tells : (text : List ℕ) → IsTrue (level_path_test text) ↔ IsLevelPath text
path_tells text = (path_of_test text, test_of_path text)

pub part_tells : (text : List ℕ) → IsTrue (part_test text) ↔ IsPartText text
part_tells text = (λ e. part_of_name text (word_of_test Plain 31 (without_slash text) e), λ is. test_of_word Plain 31 (without_slash text) (name_of_part text is))
