-- Words of an alphabet.
use Rattle.std.proofs.Common.{◌≡◌, ◌≢◌, ℕ, ◌-◌, ◌≤◌, List, [], ◌∷◌, length, refl, ap, arith, lit<, true, ◌&&◌, not, ◌==◌}
use Rattle.std.specs.Prelude.{All, nat_lt}
use Rattle.std.specs.List.{flat_map}
use Rattle.std.proofs.lemmas.Bool.{eqb-false, ne_eqb, lt-ltb, ltb-true, and_parts, and_from, not-true, not_from_false}
use Rattle.std.proofs.lemmas.List.Elements.{All-cons, All-head, All-tail}
use Rattle.bk_text.specs.Alphabets.{IsNameByte}
use Rattle.bk_text.specs.Words.{Allowed, AllowedFirst, IsWordOf}
use Rattle.bk_text.specs.Tests.{is_printable, is_name_byte, is_allowed, is_allowed_first}
use Rattle.bk_text.specs.declared.words.Alphabet.{Alphabet}
use Rattle.bk_text.specs.declared.words.Alphabet.TheVariants.{Plain, NoPeriod, AnyFirst, Printable}
use Rattle.byte_formats.specs.Formats.{Format, pair, times, stated}
use Rattle.byte_formats.proofs.FormatLaws.{Like}
use Rattle.log_readings.specs.Readers.{read_byte, read_times, read_pair}
use Rattle.log_readings.specs.Texts.{read_word}
use Rattle.log_readings.proofs.Answering.{Reads, one_of, reads_byte, reads_like, reads_pair, reads_times, apart}

-- ---- the tests of bytes tell what is allowed

differs : (a b : ℕ) → not (a == b) ≡ true → a ≢ b
differs a b e same = eqb-false a b (not-true (a == b) e) same

unequal : (a b : ℕ) → a ≢ b → not (a == b) ≡ true
unequal a b other = not_from_false (a == b) (ne_eqb a b other)

pub name_byte : (b : ℕ) → is_name_byte b ≡ true → IsNameByte b
name_byte b e =
    let p = and_parts (is_printable b) (not (b == 47)) e in
    let q = and_parts (nat_lt 32 b) (nat_lt b 127) p.0 in
    (ltb-true 32 b q.0, ltb-true b 127 q.1, differs b 47 p.1)

pub byte_name : (b : ℕ) → IsNameByte b → is_name_byte b ≡ true
byte_name b is = and_from (is_printable b) (not (b == 47)) (and_from (nat_lt 32 b) (nat_lt b 127) (lt-ltb 32 b is.0) (lt-ltb b 127 is.1)) (unequal b 47 is.2)

allowed : (alphabet : Alphabet) (b : ℕ) → is_allowed alphabet b ≡ true → Allowed alphabet b
allowed Plain b e = name_byte b e
allowed NoPeriod b e = let p = and_parts (is_name_byte b) (not (b == 46)) e in (name_byte b p.0, differs b 46 p.1)
allowed AnyFirst b e = name_byte b e
allowed Printable b e = let p = and_parts (nat_lt 32 b) (nat_lt b 127) e in (ltb-true 32 b p.0, ltb-true b 127 p.1)

allows : (alphabet : Alphabet) (b : ℕ) → Allowed alphabet b → is_allowed alphabet b ≡ true
allows Plain b is = byte_name b is
allows NoPeriod b is = and_from (is_name_byte b) (not (b == 46)) (byte_name b is.0) (unequal b 46 is.1)
allows AnyFirst b is = byte_name b is
allows Printable b is = and_from (nat_lt 32 b) (nat_lt b 127) (lt-ltb 32 b is.0) (lt-ltb b 127 is.1)

allowed_first : (alphabet : Alphabet) (b : ℕ) → is_allowed_first alphabet b ≡ true → AllowedFirst alphabet b
allowed_first Plain b e = differs b 45 e
allowed_first NoPeriod b e = differs b 45 e
allowed_first AnyFirst b e = tt
allowed_first Printable b e = tt

allows_first : (alphabet : Alphabet) (b : ℕ) → AllowedFirst alphabet b → is_allowed_first alphabet b ≡ true
allows_first Plain b is = unequal b 45 is
allows_first NoPeriod b is = unequal b 45 is
allows_first AnyFirst b is = refl
allows_first Printable b is = refl

-- the letter a is allowed everywhere
pub letter : IsNameByte 97
letter = (lit< tt, lit< tt, λ (e : 97 ≡ 47). omega arith)

a_allowed : (alphabet : Alphabet) → Allowed alphabet 97
a_allowed Plain = letter
a_allowed NoPeriod = (letter, λ (e : 97 ≡ 46). omega arith)
a_allowed AnyFirst = letter
a_allowed Printable = (lit< tt, lit< tt)

a_first : (alphabet : Alphabet) → AllowedFirst alphabet 97
a_first Plain = λ (e : 97 ≡ 45). omega arith
a_first NoPeriod = λ (e : 97 ≡ 45). omega arith
a_first AnyFirst = tt
a_first Printable = tt

-- ---- a first byte, and bytes behind it

abbrev FitsFirst : Alphabet → ℕ → Type 0
FitsFirst alphabet b = AllowedFirst alphabet b × Allowed alphabet b

abbrev letters : Alphabet → ℕ → Format (ℕ × List ℕ)
letters alphabet n = pair (one_of (FitsFirst alphabet)) (times (n - 1) (one_of (Allowed alphabet)))

cells : (xs : List ℕ) → xs ≡ flat_map (λ (b : ℕ). b ∷ []) xs
cells [] = refl
cells (x ∷ xs) = ap (λ (l : List ℕ). x ∷ l) (cells xs)

word_there : (alphabet : Alphabet) (most n b : ℕ) (bytes : List ℕ) → 1 ≤ n → n ≤ most → FitsFirst alphabet b → length bytes ≡ n - 1 → All (Allowed alphabet) bytes → (stated n (IsWordOf alphabet most)).Is (b ∷ bytes)
word_there alphabet most n b bytes some fits first long each = (
  record { some = omega arith; short = omega (arith, some, fits, long); first = first.0; each = All-cons (Allowed alphabet) b bytes first.1 each },
  omega (arith, some, long),
)

word_back : (alphabet : Alphabet) (most n : ℕ) (text : List ℕ) → (stated n (IsWordOf alphabet most)).Is text → (letters alphabet n).Is (apart 97 text)
word_back alphabet most n [] is = absurd (omega (arith, is.0.some))
word_back alphabet most n (b ∷ bytes) is = ((is.0.first, All-head (Allowed alphabet) b bytes is.0.each), (omega (arith, is.1), All-tail (Allowed alphabet) b bytes is.0.each))

word_restored : (alphabet : Alphabet) (most n : ℕ) (text : List ℕ) → (stated n (IsWordOf alphabet most)).Is text → (apart 97 text).0 ∷ (apart 97 text).1 ≡ text
word_restored alphabet most n [] is = absurd (omega (arith, is.0.some))
word_restored alphabet most n (b ∷ bytes) is = refl

word_same : (alphabet : Alphabet) (most n : ℕ) (text : List ℕ) → (stated n (IsWordOf alphabet most)).Is text → text ≡ (letters alphabet n).spelled (apart 97 text)
word_same alphabet most n [] is = absurd (omega (arith, is.0.some))
word_same alphabet most n (b ∷ bytes) is = ap (λ (l : List ℕ). b ∷ l) (cells bytes)

unfoldable like_word : (alphabet : Alphabet) (most n : ℕ) → 1 ≤ n → n ≤ most → Like (letters alphabet n) (stated n (IsWordOf alphabet most))
like_word alphabet most n some fits = record {
  to = λ p. p.0 ∷ p.1;
  from = apart 97;
  there = λ p is. word_there alphabet most n p.0 p.1 some fits is.0 is.1.0 is.1.1;
  back = word_back alphabet most n;
  again = λ p is. refl;
  restored = word_restored alphabet most n;
  same = word_same alphabet most n;
}

reads_first : (alphabet : Alphabet) → Reads (one_of (FitsFirst alphabet)) (read_byte (λ b. is_allowed_first alphabet b && is_allowed alphabet b))
reads_first alphabet = reads_byte (FitsFirst alphabet) (λ b. is_allowed_first alphabet b && is_allowed alphabet b) 97 (a_first alphabet, a_allowed alphabet)
    (λ b e. let p = and_parts (is_allowed_first alphabet b) (is_allowed alphabet b) e in (allowed_first alphabet b p.0, allowed alphabet b p.1))
    (λ b is. and_from (is_allowed_first alphabet b) (is_allowed alphabet b) (allows_first alphabet b is.0) (allows alphabet b is.1))

reads_letter : (alphabet : Alphabet) → Reads (one_of (Allowed alphabet)) (read_byte (is_allowed alphabet))
reads_letter alphabet = reads_byte (Allowed alphabet) (is_allowed alphabet) 97 (a_allowed alphabet) (allowed alphabet) (allows alphabet)

pub reads_word : (alphabet : Alphabet) (most n : ℕ) → 1 ≤ n → n ≤ most → Reads (stated n (IsWordOf alphabet most)) (read_word alphabet n)
unfolding read_word like_word
reads_word alphabet most n some fits =
    reads_like (letters alphabet n) (stated n (IsWordOf alphabet most)) (read_pair (read_byte (λ b. is_allowed_first alphabet b && is_allowed alphabet b)) (read_times (n - 1) (read_byte (is_allowed alphabet)))) (like_word alphabet most n some fits)
    (reads_pair (one_of (FitsFirst alphabet)) (times (n - 1) (one_of (Allowed alphabet))) (read_byte (λ b. is_allowed_first alphabet b && is_allowed alphabet b)) (read_times (n - 1) (read_byte (is_allowed alphabet)))
    (reads_first alphabet)
    (reads_times (n - 1) (one_of (Allowed alphabet)) (read_byte (is_allowed alphabet)) (reads_letter alphabet)))
