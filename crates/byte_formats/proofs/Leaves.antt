-- Numbers and texts: how each is known by its bytes, and where its bytes stop.
use Rattle.std.proofs.Common.{zero, suc, ◌≡◌, ℕ, ◌+◌, ◌-◌, ◌*◌, ◌/◌, ◌%◌, ◌<◌, ◌≤◌, List, [], ◌∷◌, ◌++◌, length, take, drop, get_or, replicate, refl, sym, ap, subst, ◌∙◌, arith, length-append, Option, Some, None, lit<, lit≤}
use Rattle.std.specs.Prelude.{All}
use Rattle.std.specs.Int.{w16, w32, from_be_bytes, to_be_bytes}
use Rattle.std.proofs.lemmas.Nat.{be_bytes_2, be_bytes_4, from_be_bytes-to_be_bytes_2, from_be_bytes-to_be_bytes_4}
use Rattle.std.proofs.lemmas.List.{append-nil, length-replicate, get_or-replicate}
use Rattle.std.proofs.lemmas.List.Elements.{All-head, All-replicate}
use Rattle.bk_text.specs.Places.{Begun, OfLength}
use Rattle.bk_text.specs.Alphabets.{IsNameByte, IsElement}
use Rattle.bk_text.specs.Words.{Allowed, AllowedFirst, IsWordOf}
use Rattle.bk_text.specs.LevelPaths.{path_of, IsLevelPath}
use Rattle.bk_text.specs.declared.words.Alphabet.{Alphabet}
use Rattle.bk_text.specs.declared.words.Alphabet.TheVariants.{Plain, NoPeriod, AnyFirst, Printable}
use Rattle.bk_text.proofs.StatedLaws.{path_begun_empty}
use Rattle.byte_formats.specs.Bytes.{two, four, text1, text2, any_or}
use Rattle.byte_formats.specs.Forms.{IsFour, IsAnyOr}
use Rattle.byte_formats.specs.declared.fault.ReadFault.{ReadFault}
use Rattle.byte_formats.specs.declared.fault.ReadFault.TheVariants.{Bad, Memory}
use Rattle.byte_formats.specs.Formats.{Took, Sticks, Stops, both, stated, one_in, two_in, any_four, text1_of, text2_of, any_of}
use Rattle.byte_formats.proofs.FormatLaws.{Sole, Has, Like, split_same, sole_both, sole_like, sole_stated}

-- ---- one byte

pub sole_one : (low high : ℕ) → Sole (one_in low high)
sole_one low high = record { same = go }
  where
    go : (x y : ℕ) (r s : List ℕ) → (low ≤ x) × (x ≤ high) → (low ≤ y) × (y ≤ high) → x ∷ r ≡ y ∷ s → (x ≡ y) × (r ≡ s)
    go x y r s isx isy e = (cc, cc)

pub one_empty : (low high : ℕ) (bytes : List ℕ) → low ≤ high → length bytes < 1 → Sticks (one_in low high) bytes 0
one_empty low high [] le none = record {
  good = [];
  bad = [];
  joined = refl;
  count = refl;
  value = low;
  is = (omega arith, le);
  more = low ∷ [];
  wanting = lit< tt;
  begun = refl;
  here = λ b behind e. absurd (cc e);
}
one_empty low high (b ∷ bs) le none = absurd (omega (arith, none))

pub one_stuck : (low high : ℕ) (bytes : List ℕ) → low ≤ high → 1 ≤ length bytes → ((low ≤ get_or bytes 0 0) × (get_or bytes 0 0 ≤ high) → ⊥) → Sticks (one_in low high) bytes (length bytes)
one_stuck low high [] le some not = absurd (omega (arith, some))
one_stuck low high (a ∷ r) le some not = record {
  good = [];
  bad = a ∷ r;
  joined = refl;
  count = refl;
  value = low;
  is = (omega arith, le);
  more = low ∷ [];
  wanting = lit< tt;
  begun = refl;
  here = go;
}
  where
    go : (b : ℕ) (behind : List ℕ) → a ∷ r ≡ b ∷ behind → (x : ℕ) (rest after : List ℕ) → (low ≤ x) × (x ≤ high) → b ∷ after ≡ x ∷ rest → ⊥
    go b behind e x rest after is eq =
        let same : a ≡ x = let one : a ≡ b = cc in let other : b ≡ x = cc in one ∙ other in
        not (omega (arith, same, is.0), omega (arith, same, is.1))

pub one_took : (low high : ℕ) (bytes : List ℕ) → 1 ≤ length bytes → low ≤ get_or bytes 0 0 → get_or bytes 0 0 ≤ high → Took (one_in low high) bytes (get_or bytes 0 0) (drop 1 bytes)
one_took low high [] some lo hi = absurd (omega (arith, some))
one_took low high (a ∷ r) some lo hi = record { is = (lo, hi); joined = refl }

-- ---- two bytes

-- the number of two bytes
abbrev pub of_two : ℕ → ℕ → ℕ
of_two a b = from_be_bytes w16 (a ∷ b ∷ [])

pub two_bytes : (n a b : ℕ) → a < 256 → b < 256 → n ≡ of_two a b → two n ≡ a ∷ b ∷ []
unfolding two
two_bytes n a b fa fb is = be_bytes_2 (a ∷ b ∷ []) n refl go is
  where
    go : (i : ℕ) → get_or (a ∷ b ∷ []) i 0 < 256
    go zero = fa
    go (suc zero) = fb
    go (suc (suc i)) = omega arith

pub two_cells : (n : ℕ) → two n ≡ (n / 256 % 256) ∷ (n % 256) ∷ []
unfolding two
two_cells n = refl

pub sole_two : (low high : ℕ) → high ≤ 65535 → Sole (two_in low high)
unfolding two
sole_two low high small = record { same = go }
  where
    go : (x y : ℕ) (r s : List ℕ) → (low ≤ x) × (x ≤ high) → (low ≤ y) × (y ≤ high) → to_be_bytes w16 x ++ r ≡ to_be_bytes w16 y ++ s → (x ≡ y) × (r ≡ s)
    go x y r s isx isy e =
        let halves = split_same (to_be_bytes w16 x) (to_be_bytes w16 y) r s refl e in
        (sym (from_be_bytes-to_be_bytes_2 x (omega (arith, isx.1))) ∙ ap (from_be_bytes w16) halves.0 ∙ from_be_bytes-to_be_bytes_2 y (omega (arith, isy.1)), halves.1)

-- a number of these bounds that begins with this byte
record Begins (low high a : ℕ) : Type 0 where
  n : ℕ
  is : (low ≤ n) × (n ≤ high)
  b : ℕ
  bytes : two n ≡ a ∷ b ∷ []

begins_two : (low high a : ℕ) → low ≤ high → high ≤ 65535 → a < 256 → low ≤ of_two a 255 → of_two a 0 ≤ high → Begins low high a
begins_two low high a le small fits lo hi = go (low - a * 256) (omega arith)
  where
    go : (b : ℕ) → b ≡ low - a * 256 → Begins low high a
    go b is = record {
      n = a * 256 + b;
      is = (omega (arith, is, lo, hi), omega (arith, is, lo, hi, le));
      b = b;
      bytes = two_bytes (a * 256 + b) a b fits (omega (arith, is, lo)) (omega arith);
    }

pub two_empty : (low high : ℕ) (bytes : List ℕ) → low ≤ high → length bytes < 1 → Sticks (two_in low high) bytes 0
two_empty low high [] le none = record {
  good = [];
  bad = [];
  joined = refl;
  count = refl;
  value = low;
  is = (omega arith, le);
  more = two low;
  wanting = omega (arith, ap length (two_cells low));
  begun = refl;
  here = λ b behind e. absurd (cc e);
}
two_empty low high (b ∷ bs) le none = absurd (omega (arith, none))

pub two_first : (low high : ℕ) (bytes : List ℕ) → low ≤ high → high ≤ 65535 → 1 ≤ length bytes → get_or bytes 0 0 < 256 → ((low ≤ of_two (get_or bytes 0 0) 255) × (of_two (get_or bytes 0 0) 0 ≤ high) → ⊥) → Sticks (two_in low high) bytes (length bytes)
two_first low high [] le small some fits not = absurd (omega (arith, some))
two_first low high (a ∷ r) le small some fits not = record {
  good = [];
  bad = a ∷ r;
  joined = refl;
  count = refl;
  value = low;
  is = (omega arith, le);
  more = two low;
  wanting = omega (arith, ap length (two_cells low));
  begun = refl;
  here = go;
}
  where
    go : (b : ℕ) (behind : List ℕ) → a ∷ r ≡ b ∷ behind → (x : ℕ) (rest after : List ℕ) → (low ≤ x) × (x ≤ high) → b ∷ after ≡ two x ++ rest → ⊥
    go b behind e x rest after is eq =
        let e2 : b ∷ after ≡ (x / 256 % 256) ∷ (x % 256) ∷ rest = eq ∙ ap (λ (y : List ℕ). y ++ rest) (two_cells x) in
        let one : a ≡ b = cc in
        let other : b ≡ x / 256 % 256 = cc in
        not (omega (arith, one, other, is.0, is.1), omega (arith, one, other, is.0, is.1))

pub two_cut : (low high : ℕ) (bytes : List ℕ) → low ≤ high → high ≤ 65535 → 1 ≤ length bytes → length bytes < 2 → get_or bytes 0 0 < 256 → low ≤ of_two (get_or bytes 0 0) 255 → of_two (get_or bytes 0 0) 0 ≤ high → Sticks (two_in low high) bytes 0
two_cut low high [] le small some few fits lo hi = absurd (omega (arith, some))
two_cut low high (a ∷ []) le small some few fits lo hi =
    let n = begins_two low high a le small fits lo hi in
    record {
      good = a ∷ [];
      bad = [];
      joined = refl;
      count = refl;
      value = n.n;
      is = n.is;
      more = n.b ∷ [];
      wanting = lit< tt;
      begun = n.bytes;
      here = λ b behind e. absurd (cc e);
    }
two_cut low high (a ∷ c ∷ r) le small some few fits lo hi = absurd (omega (arith, few))

pub two_second : (low high n : ℕ) (bytes : List ℕ) → low ≤ high → high ≤ 65535 → 2 ≤ length bytes → get_or bytes 0 0 < 256 → get_or bytes 1 0 < 256 → low ≤ of_two (get_or bytes 0 0) 255 → of_two (get_or bytes 0 0) 0 ≤ high
    → n ≡ of_two (get_or bytes 0 0) (get_or bytes 1 0) → ((low ≤ n) × (n ≤ high) → ⊥) → Sticks (two_in low high) bytes (length bytes - 1)
two_second low high n [] le small some fa fb lo hi is not = absurd (omega (arith, some))
two_second low high n (a ∷ []) le small some fa fb lo hi is not = absurd (omega (arith, some))
two_second low high n (a ∷ c ∷ r) le small some fa fb lo hi is not =
    let m = begins_two low high a le small fa lo hi in
    record {
      good = a ∷ [];
      bad = c ∷ r;
      joined = refl;
      count = omega arith;
      value = m.n;
      is = m.is;
      more = m.b ∷ [];
      wanting = lit< tt;
      begun = m.bytes;
      here = go;
    }
  where
    go : (b : ℕ) (behind : List ℕ) → c ∷ r ≡ b ∷ behind → (x : ℕ) (rest after : List ℕ) → (low ≤ x) × (x ≤ high) → a ∷ b ∷ after ≡ two x ++ rest → ⊥
    go b behind e x rest after isx eq =
        let e2 : a ∷ b ∷ after ≡ (x / 256 % 256) ∷ (x % 256) ∷ rest = eq ∙ ap (λ (y : List ℕ). y ++ rest) (two_cells x) in
        let one : c ≡ b = cc in
        let other : b ≡ x % 256 = cc in
        let high_byte : a ≡ x / 256 % 256 = cc in
        not (omega (arith, is, one, other, high_byte, isx.0, isx.1, small), omega (arith, is, one, other, high_byte, isx.0, isx.1, small))

pub two_took : (low high n : ℕ) (bytes : List ℕ) → 2 ≤ length bytes → get_or bytes 0 0 < 256 → get_or bytes 1 0 < 256 → n ≡ of_two (get_or bytes 0 0) (get_or bytes 1 0) → low ≤ n → n ≤ high → Took (two_in low high) bytes n (drop 2 bytes)
two_took low high n [] some fa fb is lo hi = absurd (omega (arith, some))
two_took low high n (a ∷ []) some fa fb is lo hi = absurd (omega (arith, some))
two_took low high n (a ∷ b ∷ r) some fa fb is lo hi = record { is = (lo, hi); joined = ap (λ (y : List ℕ). y ++ r) (sym (two_bytes n a b fa fb is)) }

pub has_two : (low high : ℕ) → low ≤ high → Has (two_in low high)
has_two low high le = record { value = low; is = (omega arith, le) }

-- ---- four bytes

pub sole_four : Sole any_four
unfolding four
sole_four = record { same = go }
  where
    go : (x y : ℕ) (r s : List ℕ) → IsFour x → IsFour y → to_be_bytes w32 x ++ r ≡ to_be_bytes w32 y ++ s → (x ≡ y) × (r ≡ s)
    go x y r s isx isy e =
        let halves = split_same (to_be_bytes w32 x) (to_be_bytes w32 y) r s refl e in
        (sym (from_be_bytes-to_be_bytes_4 x (omega (arith, isx))) ∙ ap (from_be_bytes w32) halves.0 ∙ from_be_bytes-to_be_bytes_4 y (omega (arith, isy)), halves.1)

pub has_four : Has any_four
has_four = record { value = 0; is = lit≤ tt }

abbrev pub of_four : ℕ → ℕ → ℕ → ℕ → ℕ
of_four a b c d = from_be_bytes w32 (a ∷ b ∷ c ∷ d ∷ [])

four_bytes : (a b c d : ℕ) → a < 256 → b < 256 → c < 256 → d < 256 → four (of_four a b c d) ≡ a ∷ b ∷ c ∷ d ∷ []
unfolding four
four_bytes a b c d fa fb fc fd = be_bytes_4 (a ∷ b ∷ c ∷ d ∷ []) (of_four a b c d) refl go refl
  where
    go : (i : ℕ) → get_or (a ∷ b ∷ c ∷ d ∷ []) i 0 < 256
    go zero = fa
    go (suc zero) = fb
    go (suc (suc zero)) = fc
    go (suc (suc (suc zero))) = fd
    go (suc (suc (suc (suc i)))) = omega arith

four_fits : (a b c d : ℕ) → a < 256 → b < 256 → c < 256 → d < 256 → IsFour (of_four a b c d)
four_fits a b c d fa fb fc fd = omega (arith, fa, fb, fc, fd)

four_begun : (bytes more : List ℕ) (a b c d : ℕ) → a < 256 → b < 256 → c < 256 → d < 256 → a ∷ b ∷ c ∷ d ∷ [] ≡ bytes ++ more → 0 < length more → Sticks any_four bytes 0
four_begun bytes more a b c d fa fb fc fd is wanting = record {
  good = bytes;
  bad = [];
  joined = sym (append-nil bytes);
  count = refl;
  value = of_four a b c d;
  is = four_fits a b c d fa fb fc fd;
  more = more;
  wanting = wanting;
  begun = four_bytes a b c d fa fb fc fd ∙ is;
  here = λ b behind e. absurd (cc e);
}

pub four_cut : (bytes : List ℕ) → length bytes < 4 → ((i : ℕ) → get_or bytes i 0 < 256) → Sticks any_four bytes 0
four_cut [] few fits = four_begun [] (0 ∷ 0 ∷ 0 ∷ 0 ∷ []) 0 0 0 0 (lit< tt) (lit< tt) (lit< tt) (lit< tt) refl (lit< tt)
four_cut (a ∷ []) few fits = four_begun (a ∷ []) (0 ∷ 0 ∷ 0 ∷ []) a 0 0 0 (fits 0) (lit< tt) (lit< tt) (lit< tt) refl (lit< tt)
four_cut (a ∷ b ∷ []) few fits = four_begun (a ∷ b ∷ []) (0 ∷ 0 ∷ []) a b 0 0 (fits 0) (fits 1) (lit< tt) (lit< tt) refl (lit< tt)
four_cut (a ∷ b ∷ c ∷ []) few fits = four_begun (a ∷ b ∷ c ∷ []) (0 ∷ []) a b c 0 (fits 0) (fits 1) (fits 2) (lit< tt) refl (lit< tt)
four_cut (a ∷ b ∷ c ∷ d ∷ r) few fits = absurd (omega (arith, few))

pub four_took : (bytes : List ℕ) (n : ℕ) → 4 ≤ length bytes → ((i : ℕ) → get_or bytes i 0 < 256) → n ≡ of_four (get_or bytes 0 0) (get_or bytes 1 0) (get_or bytes 2 0) (get_or bytes 3 0) → Took any_four bytes n (drop 4 bytes)
four_took [] n some fits is = absurd (omega (arith, some))
four_took (a ∷ []) n some fits is = absurd (omega (arith, some))
four_took (a ∷ b ∷ []) n some fits is = absurd (omega (arith, some))
four_took (a ∷ b ∷ c ∷ []) n some fits is = absurd (omega (arith, some))
four_took (a ∷ b ∷ c ∷ d ∷ r) n some fits is = record {
  is = subst IsFour (sym is) (four_fits a b c d (fits 0) (fits 1) (fits 2) (fits 3));
  joined = ap (λ (y : List ℕ). y ++ r) (sym (ap four is ∙ four_bytes a b c d (fits 0) (fits 1) (fits 2) (fits 3)));
}

-- ---- texts

unfoldable pub like_text1 : (low high : ℕ) (Form : List ℕ → Type 0) → ((text : List ℕ) → Form text → (low ≤ length text) × (length text ≤ high)) → Like (both (one_in low high) (λ n. stated n Form)) (text1_of Form)
unfolding text1
like_text1 low high Form bounds = record {
  to = λ p. p.1;
  from = λ text. (length text, text);
  there = λ p is. is.1.0;
  back = λ text is. (bounds text is, (is, refl));
  again = λ p is. ap (λ (n : ℕ). (n, p.1)) is.1.1;
  restored = λ text is. refl;
  same = λ text is. refl;
}

unfoldable pub like_text2 : (low high : ℕ) (Form : List ℕ → Type 0) → ((text : List ℕ) → Form text → (low ≤ length text) × (length text ≤ high)) → Like (both (two_in low high) (λ n. stated n Form)) (text2_of Form)
unfolding text2
like_text2 low high Form bounds = record {
  to = λ p. p.1;
  from = λ text. (length text, text);
  there = λ p is. is.1.0;
  back = λ text is. (bounds text is, (is, refl));
  again = λ p is. ap (λ (n : ℕ). (n, p.1)) is.1.1;
  restored = λ text is. refl;
  same = λ text is. refl;
}

pub sole_text1 : (low high : ℕ) (Form : List ℕ → Type 0) → ((text : List ℕ) → Form text → (low ≤ length text) × (length text ≤ high)) → Sole (text1_of Form)
sole_text1 low high Form bounds = sole_like (both (one_in low high) (λ n. stated n Form)) (text1_of Form) (like_text1 low high Form bounds) (sole_both (one_in low high) (λ n. stated n Form) (sole_one low high) (λ n is. sole_stated n Form))

pub sole_text2 : (low high : ℕ) (Form : List ℕ → Type 0) → high ≤ 65535 → ((text : List ℕ) → Form text → (low ≤ length text) × (length text ≤ high)) → Sole (text2_of Form)
sole_text2 low high Form small bounds = sole_like (both (two_in low high) (λ n. stated n Form)) (text2_of Form) (like_text2 low high Form bounds) (sole_both (two_in low high) (λ n. stated n Form) (sole_two low high small) (λ n is. sole_stated n Form))

pub word_bounds : (alphabet : Alphabet) (most : ℕ) (text : List ℕ) → IsWordOf alphabet most text → (1 ≤ length text) × (length text ≤ most)
word_bounds alphabet most text is = (omega (arith, is.some), is.short)

path_two : (elements : List (List ℕ)) → 0 < length elements → All IsElement elements → 2 ≤ length (path_of elements)
path_two [] some each = absurd (omega arith)
path_two (e ∷ es) some each =
    let is : IsElement e = All-head IsElement e es each in
    omega (arith, is.some, length-append (47 ∷ e) (path_of es))

pub path_bounds : (text : List ℕ) → IsLevelPath text → (2 ≤ length text) × (length text ≤ 256)
path_bounds text is = (omega (arith, ap length is.is.joined, path_two is.elements is.some is.is.each), is.short)

a_plain : IsNameByte 97
a_plain = (lit< tt, lit< tt, λ (e : 97 ≡ 47). omega arith)

a_allowed : (alphabet : Alphabet) → Allowed alphabet 97
a_allowed Plain = a_plain
a_allowed NoPeriod = (a_plain, λ (e : 97 ≡ 46). omega arith)
a_allowed AnyFirst = a_plain
a_allowed Printable = (lit< tt, lit< tt)

a_first : (alphabet : Alphabet) → AllowedFirst alphabet 97
a_first Plain = λ (e : 97 ≡ 45). omega arith
a_first NoPeriod = λ (e : 97 ≡ 45). omega arith
a_first AnyFirst = tt
a_first Printable = tt

pub has_word : (alphabet : Alphabet) (most n : ℕ) → 1 ≤ n → n ≤ most → Has (stated n (IsWordOf alphabet most))
has_word alphabet most n some fits =
    let long : length (replicate {A = ℕ} n 97) ≡ n = length-replicate {A = ℕ} n 97 in
    record {
      value = replicate n 97;
      is = (
        record {
          some = omega (arith, some, long);
          short = omega (arith, fits, long);
          first = subst (AllowedFirst alphabet) (sym (get_or-replicate n 0 97 0 (omega (arith, some)))) (a_first alphabet);
          each = All-replicate (Allowed alphabet) n 97 (a_allowed alphabet);
        },
        long,
      );
    }

pub has_path : (n : ℕ) → 2 ≤ n → n ≤ 256 → Has (stated n IsLevelPath)
has_path n some fits =
    let b : Begun (OfLength n IsLevelPath) [] = path_begun_empty n [] some fits refl in
    record { value = b.0; is = b.1 }

pub has_text1 : (alphabet : Alphabet) (most : ℕ) → 1 ≤ most → Has (text1_of (IsWordOf alphabet most))
has_text1 alphabet most some = record { value = (has_word alphabet most 1 (lit≤ tt) some).value; is = (has_word alphabet most 1 (lit≤ tt) some).is.0 }

pub has_text2 : (alphabet : Alphabet) (most : ℕ) → 1 ≤ most → Has (text2_of (IsWordOf alphabet most))
has_text2 alphabet most some = record { value = (has_word alphabet most 1 (lit≤ tt) some).value; is = (has_word alphabet most 1 (lit≤ tt) some).is.0 }

pub has_level : Has (text2_of IsLevelPath)
has_level = record { value = (has_path 2 (lit≤ tt) (lit≤ tt)).value; is = (has_path 2 (lit≤ tt) (lit≤ tt)).is.0 }

-- ---- any, or a text

any_cells : (Form : List ℕ → Type 0) → any_or None ≡ 0 ∷ []
unfolding any_or text1
any_cells Form = refl

some_cells : (text : List ℕ) → any_or (Some text) ≡ text1 text
unfolding any_or
some_cells text = refl

text_cells : (text : List ℕ) → text1 text ≡ length text ∷ text
unfolding text1
text_cells text = refl

pub sole_any : (Form : List ℕ → Type 0) → ((text : List ℕ) → Form text → 1 ≤ length text) → Sole (text1_of Form) → Sole (any_of Form)
unfolding any_or text1
sole_any Form some sole = record { same = go }
  where
    go : (x y : Option (List ℕ)) (r s : List ℕ) → IsAnyOr Form x → IsAnyOr Form y → any_or x ++ r ≡ any_or y ++ s → (x ≡ y) × (r ≡ s)
    go None None r s isx isy e = let e2 : 0 ∷ r ≡ 0 ∷ s = e in (refl, cc)
    go None (Some t) r s isx isy e = let zero_long : 0 ≡ length t = cc in absurd (omega (arith, some t isy, zero_long))
    go (Some t) None r s isx isy e = let zero_long : length t ≡ 0 = cc in absurd (omega (arith, some t isx, zero_long))
    go (Some t) (Some u) r s isx isy e = let one = sole.same t u r s isx isy e in (ap (λ (z : List ℕ). Some z) one.0, one.1)

pub no_zero : (good bad bytes after rest : List ℕ) (b : ℕ) (behind : List ℕ) → bytes ≡ good ++ bad → bad ≡ b ∷ behind → ((r : List ℕ) → bytes ≡ 0 ∷ r → ⊥) → good ++ (b ∷ after) ≡ 0 ∷ rest → ⊥
no_zero [] bad bytes after rest b behind joined e not eq = let zero_is : b ≡ 0 = cc in not behind (joined ∙ e ∙ ap (λ (z : ℕ). z ∷ behind) zero_is)
no_zero (g ∷ gs) bad bytes after rest b behind joined e not eq = let zero_is : g ≡ 0 = cc in not (gs ++ bad) (joined ∙ ap (λ (z : ℕ). z ∷ (gs ++ bad)) zero_is)

any_sticks : (Form : List ℕ → Type 0) (bytes : List ℕ) (left : ℕ) → ((r : List ℕ) → bytes ≡ 0 ∷ r → ⊥) → Sticks (text1_of Form) bytes left → Sticks (any_of Form) bytes left
any_sticks Form bytes left not s = record {
  good = s.good;
  bad = s.bad;
  joined = s.joined;
  count = s.count;
  value = Some s.value;
  is = s.is;
  more = s.more;
  wanting = s.wanting;
  begun = some_cells s.value ∙ s.begun;
  here = go;
}
  where
    go : (b : ℕ) (behind : List ℕ) → s.bad ≡ b ∷ behind → (x : Option (List ℕ)) (rest after : List ℕ) → IsAnyOr Form x → s.good ++ (b ∷ after) ≡ any_or x ++ rest → ⊥
    go b behind e None rest after is eq = no_zero s.good s.bad bytes after rest b behind s.joined e not (eq ∙ ap (λ (y : List ℕ). y ++ rest) (any_cells Form))
    go b behind e (Some t) rest after is eq = s.here b behind e t rest after is (eq ∙ ap (λ (y : List ℕ). y ++ rest) (some_cells t))

pub any_stops : (Form : List ℕ → Type 0) (bytes : List ℕ) (fault : ReadFault) → ((r : List ℕ) → bytes ≡ 0 ∷ r → ⊥) → Stops (text1_of Form) bytes fault → Stops (any_of Form) bytes fault
any_stops Form bytes (Bad left) not s = any_sticks Form bytes left not s
any_stops Form bytes Memory not s = tt

pub any_none : (Form : List ℕ → Type 0) (bytes : List ℕ) → 1 ≤ length bytes → get_or bytes 0 0 ≡ 0 → Took (any_of Form) bytes None (drop 1 bytes)
any_none Form [] some zero_is = absurd (omega (arith, some))
any_none Form (a ∷ r) some zero_is = record { is = tt; joined = ap (λ (z : ℕ). z ∷ r) zero_is ∙ ap (λ (y : List ℕ). y ++ r) (sym (any_cells Form)) }

pub any_some : (Form : List ℕ → Type 0) (bytes text rest : List ℕ) → Took (text1_of Form) bytes text rest → Took (any_of Form) bytes (Some text) rest
any_some Form bytes text rest took = record { is = took.is; joined = took.joined ∙ ap (λ (y : List ℕ). y ++ rest) (sym (some_cells text)) }

pub not_zero : (bytes : List ℕ) → (1 ≤ length bytes → get_or bytes 0 0 ≡ 0 → ⊥) → (r : List ℕ) → bytes ≡ 0 ∷ r → ⊥
not_zero bytes not r e = not (omega (arith, ap length e)) (ap (λ (y : List ℕ). get_or y 0 0) e)

pub has_any : (Form : List ℕ → Type 0) → Has (any_of Form)
has_any Form = record { value = None; is = tt }

-- the first four bytes
pub four_front : (bytes : List ℕ) → 4 ≤ length bytes → take 4 bytes ≡ get_or bytes 0 0 ∷ get_or bytes 1 0 ∷ get_or bytes 2 0 ∷ get_or bytes 3 0 ∷ []
four_front [] some = absurd (omega (arith, some))
four_front (a ∷ []) some = absurd (omega (arith, some))
four_front (a ∷ b ∷ []) some = absurd (omega (arith, some))
four_front (a ∷ b ∷ c ∷ []) some = absurd (omega (arith, some))
four_front (a ∷ b ∷ c ∷ d ∷ r) some = refl
