-- The names of a dump's tapes.
use Rattle.std.proofs.Common.{◌≡◌, ℕ, ◌^◌, ◌<◌, ◌≤◌, true, List, [], ◌∷◌, ◌++◌, length, refl, sym, ap, subst, ◌∙◌, arith, length-append, leb, lit<}
use Rattle.std.specs.Prelude.{All}
use Rattle.std.specs.Fmt.{decimal}
use Rattle.std.specs.Str.{all_ascii_digits}
use Rattle.std.specs.Str.Parse.{digits_value}
use Rattle.std.specs.Char.{is_ascii_digit}
use Rattle.std.proofs.lemmas.Bool.{and_parts, leb-true}
use Rattle.std.proofs.lemmas.Fmt.{decimal_is_IsNumeral, length-decimal-le}
use Rattle.std.proofs.lemmas.List.{append_cancel_left}
use Rattle.std.proofs.lemmas.List.Elements.{All-nil, All-cons, All-append, All-head, All-tail}
use Rattle.bk_text.specs.Alphabets.{IsNameByte, IsTapeName}
use Rattle.bk_text.proofs.DigitLaws.{own}
use Rattle.tape_frames.specs.TapeNames.{numbered}

named_digit : (b : ℕ) → is_ascii_digit b ≡ true → IsNameByte b
named_digit b digit =
    let parts = and_parts (leb 48 b) (leb b 57) digit in
    let low = leb-true 48 b parts.0 in
    let high = leb-true b 57 parts.1 in
    (omega (arith, low), omega (arith, high), λ e. omega (arith, low, e))

named_digits : (ds : List ℕ) → all_ascii_digits ds ≡ true → All IsNameByte ds
named_digits [] digits = All-nil IsNameByte
named_digits (d ∷ ds) digits =
    let parts = and_parts (is_ascii_digit d) (all_ascii_digits ds) digits in
    All-cons IsNameByte d ds (named_digit d parts.0) (named_digits ds parts.1)

small : (n : ℕ) → n ≤ 4294967295 → n < 2 ^ 64
small n le = omega (arith, le)

short : (n : ℕ) → n ≤ 4294967295 → length (decimal n) ≤ 10
short n le = length-decimal-le 10 n (lit< tt) (omega (arith, le)) (small n le)

period : IsNameByte 46
period = (lit< tt, lit< tt, λ (e : 46 ≡ 47). omega arith)

pub numbered_is : (base : List ℕ) (n : ℕ) → IsTapeName base → length base ≤ 69 → n ≤ 4294967295 → IsTapeName (numbered base n)
numbered_is base n is room le =
    let ds : List ℕ = decimal n in
    let digits = own.from ds (decimal_is_IsNumeral n (small n le)).0.1 in
    record {
      some = omega (arith, is.some, length-append base (46 ∷ ds));
      short = omega (arith, room, short n le, length-append base (46 ∷ ds));
      first = tt;
      each = All-append IsNameByte base (46 ∷ ds) is.each (All-cons IsNameByte 46 ds period (named_digits ds digits));
    }

tail_same : (a b : List ℕ) → 46 ∷ a ≡ 46 ∷ b → a ≡ b
tail_same a b e = cc

pub same_number : (base : List ℕ) (m n : ℕ) → m ≤ 4294967295 → n ≤ 4294967295 → numbered base m ≡ numbered base n → m ≡ n
same_number base m n le_m le_n e =
    let digits : decimal m ≡ decimal n = tail_same (decimal m) (decimal n) (append_cancel_left base (46 ∷ decimal m) (46 ∷ decimal n) e) in
    sym (decimal_is_IsNumeral m (small m le_m)).1 ∙ ap (digits_value 10) digits ∙ (decimal_is_IsNumeral n (small n le_n)).1

-- ---- base and number

has_period : (front behind : List ℕ) → All (λ d. 48 ≤ d) (front ++ 46 ∷ behind) → ⊥
has_period [] behind all = let low : 48 ≤ 46 = All-head (λ d. 48 ≤ d) 46 behind all in omega (arith, low)
has_period (x ∷ front) behind all = has_period front behind (All-tail (λ d. 48 ≤ d) x (front ++ 46 ∷ behind) all)

split_same : (a b ds es : List ℕ) → All (λ d. 48 ≤ d) ds → All (λ d. 48 ≤ d) es → a ++ 46 ∷ ds ≡ b ++ 46 ∷ es → (a ≡ b) × (ds ≡ es)
split_same [] [] ds es is_ds is_es e = (refl, cc)
split_same [] (y ∷ b) ds es is_ds is_es e = let tail : ds ≡ b ++ 46 ∷ es = cc in absurd (has_period b es (subst (All (λ d. 48 ≤ d)) tail is_ds))
split_same (x ∷ a) [] ds es is_ds is_es e = let tail : es ≡ a ++ 46 ∷ ds = cc in absurd (has_period a ds (subst (All (λ d. 48 ≤ d)) tail is_es))
split_same (x ∷ a) (y ∷ b) ds es is_ds is_es e =
    let head : x ≡ y = cc in
    let tail : a ++ 46 ∷ ds ≡ b ++ 46 ∷ es = cc in
    let both = split_same a b ds es is_ds is_es tail in
    (ap (λ (z : ℕ). z ∷ a) head ∙ ap (λ (l : List ℕ). y ∷ l) both.0, both.1)

low_digits : (ds : List ℕ) → all_ascii_digits ds ≡ true → All (λ d. 48 ≤ d) ds
low_digits [] digits = All-nil (λ d. 48 ≤ d)
low_digits (d ∷ ds) digits =
    let parts = and_parts (is_ascii_digit d) (all_ascii_digits ds) digits in
    let bounds = and_parts (leb 48 d) (leb d 57) parts.0 in
    All-cons (λ d. 48 ≤ d) d ds (leb-true 48 d bounds.0) (low_digits ds parts.1)

decimal_digits : (n : ℕ) → n ≤ 4294967295 → All (λ d. 48 ≤ d) (decimal n)
decimal_digits n le = low_digits (decimal n) (own.from (decimal n) (decimal_is_IsNumeral n (small n le)).0.1)

pub same_base_and_number : (a b : List ℕ) (m n : ℕ) → m ≤ 4294967295 → n ≤ 4294967295 → numbered a m ≡ numbered b n → (a ≡ b) × (m ≡ n)
same_base_and_number a b m n le_m le_n e =
    let both = split_same a b (decimal m) (decimal n) (decimal_digits m le_m) (decimal_digits n le_n) e in
    (both.0, sym (decimal_is_IsNumeral m (small m le_m)).1 ∙ ap (digits_value 10) both.1 ∙ (decimal_is_IsNumeral n (small n le_n)).1)
