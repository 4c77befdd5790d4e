-- The names of a dump's tapes, and what they begin with.
use Rattle.std.proofs.Common.{◌≡◌, ℕ, ◌^◌, ◌<◌, ◌≤◌, true, List, [], ◌∷◌, ◌++◌, length, refl, sym, ◌∙◌, ap, subst, arith, length-append, leb, lit<}
use Rattle.std.specs.Prelude.{Option, Some, None, All}
use Rattle.std.specs.Fmt.{decimal}
use Rattle.std.specs.List.{last_or}
use Rattle.std.specs.Option.{unwrap_or}
use Rattle.std.specs.Str.{all_ascii_digits}
use Rattle.std.specs.Char.{is_ascii_digit}
use Rattle.std.proofs.lemmas.Bool.{and_parts, leb-true}
use Rattle.std.proofs.lemmas.Fmt.{decimal_is_IsNumeral, length-decimal-le}
use Rattle.std.proofs.lemmas.List.Elements.{All-nil, All-cons, All-append, All-head, All-tail, All-weaker}
use Rattle.bk_text.specs.Alphabets.{IsNameByte, IsSetNameByte, IsElement, IsSetName, IsTapeName}
use Rattle.bk_text.specs.LevelPaths.{IsPathOf, IsLevelPath}
use Rattle.bk_text.proofs.DigitLaws.{own}
use Rattle.bk_text.proofs.LevelParts.{has_last, elements_are}
use Rattle.tape_frames.specs.TapeNames.{numbered}
use Rattle.dump_job.specs.Beginning.{last_element}

-- ---- the last element of a level's path

last_or_end : (o : Option (List ℕ)) (es : List (List ℕ)) (e : List ℕ) → last_or o (es ++ e ∷ []) ≡ Some e
last_or_end o [] e = refl
last_or_end o (x ∷ xs) e = last_or_end (Some x) xs e

last_of_parts : (path : List ℕ) (before : List (List ℕ)) (last : List ℕ) → IsPathOf (before ++ last ∷ []) path → last ≡ last_element path
last_of_parts path before last whole = sym (ap (λ (l : List (List ℕ)). unwrap_or (last_or None l) []) (elements_are _ path whole) ∙ ap (λ (o : Option (List ℕ)). unwrap_or o []) (last_or_end None before last))

pub last_is : (path last : List ℕ) → IsLevelPath path → ((es : List (List ℕ)) (e : List ℕ) → IsPathOf (es ++ e ∷ []) path → last ≡ e) → last ≡ last_element path
last_is path last is answers =
    let parts = has_last is.elements is.some in
    let whole : IsPathOf (parts.before ++ parts.last ∷ []) path = subst (λ (l : List (List ℕ)). IsPathOf l path) parts.is is.is in
    answers parts.before parts.last whole ∙ last_of_parts path parts.before parts.last whole

each_last : (es : List (List ℕ)) (e : List ℕ) → All IsElement (es ++ e ∷ []) → IsElement e
each_last [] e each = All-head IsElement e [] each
each_last (f ∷ fs) e each = each_last fs e (All-tail IsElement f (fs ++ e ∷ []) each)

pub last_is_element : (path : List ℕ) → IsLevelPath path → IsElement (last_element path)
last_is_element path is =
    let parts = has_last is.elements is.some in
    let whole : IsPathOf (parts.before ++ parts.last ∷ []) path = subst (λ (l : List (List ℕ)). IsPathOf l path) parts.is is.is in
    subst IsElement (last_of_parts path parts.before parts.last whole) (each_last parts.before parts.last whole.each)

-- ---- names

period : IsNameByte 46
period = (lit< tt, lit< tt, λ (e : 46 ≡ 47). omega arith)

set_bytes : (set : List ℕ) → IsSetName set → All IsNameByte set
set_bytes set is = All-weaker IsSetNameByte IsNameByte (λ b named. named.0) set is.each

-- a volume set and an element of a level are a base
pub base_is_name : (set path : List ℕ) → IsSetName set → IsLevelPath path → IsTapeName (set ++ 46 ∷ last_element path)
base_is_name set path is_set is_path =
    let last = last_is_element path is_path in
    record {
      some = omega (arith, is_set.some, length-append set (46 ∷ last_element path));
      short = omega (arith, is_set.short, last.short, length-append set (46 ∷ last_element path));
      first = tt;
      each = All-append IsNameByte set (46 ∷ last_element path) (set_bytes set is_set) (All-cons IsNameByte 46 (last_element path) period last.each);
    }

named_digit : (b : ℕ) → is_ascii_digit b ≡ true → IsNameByte b
named_digit b digit =
    let parts = and_parts (leb 48 b) (leb b 57) digit in
    let low = leb-true 48 b parts.0 in
    let high = leb-true b 57 parts.1 in
    (omega (arith, low), omega (arith, high), λ e. omega (arith, low, e))

named_digits : (ds : List ℕ) → all_ascii_digits ds ≡ true → All IsNameByte ds
named_digits [] digits = All-nil IsNameByte
named_digits (d ∷ ds) digits =
    let parts = and_parts (is_ascii_digit d) (all_ascii_digits ds) digits in
    All-cons IsNameByte d ds (named_digit d parts.0) (named_digits ds parts.1)

small : (n : ℕ) → n ≤ 4294967296 → n < 2 ^ 64
small n le = omega (arith, le)

-- a base with a number, also with the one behind the last number of a tape
pub name_is : (base : List ℕ) (n : ℕ) → IsTapeName base → length base ≤ 69 → n ≤ 4294967296 → IsTapeName (numbered base n)
name_is base n is room le =
    let ds : List ℕ = decimal n in
    let digits = own.from ds (decimal_is_IsNumeral n (small n le)).0.1 in
    let short : length ds ≤ 10 = length-decimal-le 10 n (lit< tt) (omega (arith, le)) (small n le) in
    record {
      some = omega (arith, is.some, length-append base (46 ∷ ds));
      short = omega (arith, room, short, length-append base (46 ∷ ds));
      first = tt;
      each = All-append IsNameByte base (46 ∷ ds) is.each (All-cons IsNameByte 46 ds period (named_digits ds digits));
    }
