-- The names of a dump's tapes are names of tapes, and their labels fit.
use Rattle.std.proofs.Common.{◌≡◌, ◌≢◌, ℕ, ◌^◌, ◌<◌, ◌≤◌, true, List, [], ◌∷◌, length, ap, arith, inl, inr, length-append, leb, lit<}
use Rattle.std.specs.Prelude.{All}
use Rattle.std.specs.Fmt.{decimal}
use Rattle.std.specs.Str.{all_ascii_digits}
use Rattle.std.specs.Char.{is_ascii_digit}
use Rattle.std.proofs.lemmas.Bool.{and_parts, leb-true}
use Rattle.std.proofs.lemmas.Fmt.{decimal_is_IsNumeral, length-decimal-le}
use Rattle.std.proofs.lemmas.List.Elements.{All-nil, All-cons, All-append}
use Rattle.bk_text.specs.Alphabets.{IsNameByte, IsTapeName}
use Rattle.bk_text.proofs.DigitLaws.{own}
use Rattle.byte_formats.specs.Forms.{IsFour, IsMaybe, base_most}
use Rattle.tape_frames.specs.Layouts.{FitsLabel}
use Rattle.tape_frames.specs.TapeNames.{numbered}

named_digit : (b : ℕ) → is_ascii_digit b ≡ true → IsNameByte b
named_digit b digit =
    let parts = and_parts (leb 48 b) (leb b 57) digit in
    let low = leb-true 48 b parts.0 in
    let high = leb-true b 57 parts.1 in
    (omega (arith, low), omega (arith, high), λ e. omega (arith, low, e))

named_digits : (ds : List ℕ) → all_ascii_digits ds ≡ true → All IsNameByte ds
named_digits [] digits = All-nil IsNameByte
named_digits (d ∷ ds) digits =
    let parts = and_parts (is_ascii_digit d) (all_ascii_digits ds) digits in
    All-cons IsNameByte d ds (named_digit d parts.0) (named_digits ds parts.1)

small : (n : ℕ) → n ≤ 4294967295 → n < 2 ^ 64
small n le = omega (arith, le)

short : (n : ℕ) → n ≤ 4294967295 → length (decimal n) ≤ 10
short n le = length-decimal-le 10 n (lit< tt) (omega (arith, le)) (small n le)

period : IsNameByte 46
period = (lit< tt, lit< tt, λ (e : 46 ≡ 47). omega arith)

pub numbered_is : (base : List ℕ) (n : ℕ) → IsTapeName base → length base ≤ 69 → n ≤ 4294967295 → IsTapeName (numbered base n)
numbered_is base n is room le =
    let ds : List ℕ = decimal n in
    let digits = own.from ds (decimal_is_IsNumeral n (small n le)).0.1 in
    record {
      some = omega (arith, is.some, length-append base (46 ∷ ds));
      short = omega (arith, room, short n le, length-append base (46 ∷ ds));
      first = tt;
      each = All-append IsNameByte base (46 ∷ ds) is.each (All-cons IsNameByte 46 ds period (named_digits ds digits));
    }

-- ---- labels

-- a name that is one of a tape isn't empty
some_name : (name : List ℕ) → IsTapeName name → name ≢ []
some_name name is none = (let long : 1 ≤ length name = is.some in let zero_long : length name ≡ 0 = ap length none in absurd (omega (arith, long, zero_long)))

-- the new label of a tape of this number of a dump set fits
pub label_fits : (initial : ℕ) (base : List ℕ) (number : ℕ) (permanent : List ℕ) → (1 ≤ initial) × IsFour initial → (1 ≤ number) × IsFour number → IsTapeName base × (length base ≤ base_most) → IsMaybe IsTapeName permanent
    → FitsLabel (record { initial = initial; tape = number; afs = numbered base number; permanent = permanent })
label_fits initial base number permanent first counted named kept =
    let name : IsTapeName (numbered base number) = numbered_is base number named.0 named.1 counted.1 in
    record {
      initial = first.1;
      tape = counted.1;
      afs = inl name;
      permanent = kept;
      carries = inr ((λ none. absurd (omega (arith, none, first.0))), (λ none. absurd (omega (arith, none, counted.0))), some_name (numbered base number) name);
    }
