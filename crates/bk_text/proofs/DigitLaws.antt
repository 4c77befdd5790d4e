-- Numbers digit by digit.
use Rattle.std.proofs.Common.{zero, suc, ℕ, ◌+◌, ◌-◌, ◌*◌, ◌<◌, ◌≤◌, ◌≡◌, List, [], ◌∷◌, ◌++◌, length, take, get_or, Bool, true, false, ◌&&◌, min, refl, sym, ◌∙◌, ap, subst, arith, cond, nat_le, leb}
use Rattle.std.specs.Prelude.{Option, Some, None, MatchOption, IfSome}
use Rattle.std.proofs.lemmas.Bool.{le-leb, and_parts, leb-true}
use Rattle.std.proofs.lemmas.Str.{digit_value_digit}
use Rattle.bk_text.specs.Digits.{number_of, digits_of}
use Rattle.std.specs.Str.{all_ascii_digits}
use Rattle.std.specs.Str.Parse.{digits_value}
use Rattle.std.specs.Char.{is_ascii_digit, digit_value}
use Rattle.std.proofs.lemmas.List.{take_more}
use Rattle.std.proofs.lemmas.Int.Digits.{digits_value_more}
use Rattle.std.proofs.lemmas.Str.Parse.{IsNumeralModel, numerals_by_value, tells_all_ascii_digits, digits_value_short}

and_true : (a : Bool) → (a && true) ≡ a
and_true true = refl
and_true false = refl

and_assoc : (a b c : Bool) → (a && (b && c)) ≡ ((a && b) && c)
and_assoc true b c = refl
and_assoc false b c = refl

and_false : (a : Bool) → (a && false) ≡ false
and_false true = refl
and_false false = refl

pub digits_push : (xs : List ℕ) (y : ℕ) → all_ascii_digits (xs ++ y ∷ []) ≡ (all_ascii_digits xs && is_ascii_digit y)
digits_push [] y = and_true (is_ascii_digit y)
digits_push (x ∷ xs) y = ap (λ (t : Bool). is_ascii_digit x && t) (digits_push xs y) ∙ and_assoc (is_ascii_digit x) (all_ascii_digits xs) (is_ascii_digit y)

pub digit_breaks : (xs : List ℕ) (i : ℕ) → i < length xs → is_ascii_digit (get_or xs i 0) ≡ false → all_ascii_digits xs ≡ false
digit_breaks [] i within other = absurd (omega arith)
digit_breaks (x ∷ xs) zero within other = ap (λ (t : Bool). t && all_ascii_digits xs) other
digit_breaks (x ∷ xs) (suc i) within other = ap (λ (t : Bool). is_ascii_digit x && t) (digit_breaks xs i (omega arith) other) ∙ and_false (is_ascii_digit x)

pub own : IsNumeralModel (λ ds. all_ascii_digits ds ≡ true) (digits_value 10)
own = numerals_by_value (λ ds. all_ascii_digits ds ≡ true) tells_all_ascii_digits

pub short_number : (word : List ℕ) → all_ascii_digits word ≡ true → length word ≤ 9 → digits_value 10 word < 1000000000
short_number word digits short = digits_value_short own word 9 digits short

-- so far digits, and their number or the cap
pub record NumberSoFar (word : List ℕ) (at number : ℕ) : Type 0 where
  pub digits : all_ascii_digits (take at word) ≡ true
  pub is : number ≡ min (digits_value 10 (take at word)) 10000000000

digit_is : (b : ℕ) → is_ascii_digit b ≡ true → digit_value b ≡ b - 48
digit_is b digit =
    let parts = and_parts (leb 48 b) (leb b 57) digit in
    minus_is (digit_value b) b (digit_value_digit b (leb-true 48 b parts.0, leb-true b 57 parts.1))
  where
    minus_is : (d b : ℕ) → d + 48 ≡ b → d ≡ b - 48
    minus_is d b is = omega arith

capped_next : (value digit number : ℕ) → number ≡ min value 10000000000 → min 10000000000 (number * 10 + digit) ≡ min (value * 10 + digit) 10000000000
capped_next value digit number is = omega arith

pub number_more : (word : List ℕ) (at number byte next : ℕ) → at < length word → NumberSoFar word at number → byte ≡ get_or word at 0 → is_ascii_digit byte ≡ true → next ≡ min 10000000000 (number * 10 + (byte - 48)) → NumberSoFar word (at + 1) next
number_more word at number byte next within so_far is digit said = record {
  digits = ap all_ascii_digits (take_more word at 0 within) ∙ digits_push (take at word) (get_or word at 0) ∙ ap (λ (t : Bool). t && is_ascii_digit (get_or word at 0)) so_far.digits ∙ subst (λ (b : ℕ). is_ascii_digit b ≡ true) is digit;
  is = said ∙ ap (λ (d : ℕ). min 10000000000 (number * 10 + d)) (sym (digit_is byte digit)) ∙ ap (λ (b : ℕ). min 10000000000 (number * 10 + digit_value b)) is ∙ capped_next (digits_value 10 (take at word)) (digit_value (get_or word at 0)) number so_far.is ∙ ap (λ (v : ℕ). min v 10000000000) (sym (digits_value_more 10 word at within));
}

in_range : (n least most : ℕ) → least ≤ n → n ≤ most → (nat_le least n && nat_le n most) ≡ true
in_range n least most more less = ap (λ (t : Bool). t && nat_le n most) (le-leb least n more) ∙ le-leb n most less

digits_tested : (word : List ℕ) (least most : ℕ) → least ≤ length word → length word ≤ most → digits_of least most word ≡ number_of word
digits_tested word least most more less = ap (λ (t : Bool). cond t (number_of word) None) (in_range (length word) least most more less)

-- no digits
pub digits_none : (word : List ℕ) (least most : ℕ) → least ≤ length word → length word ≤ most → all_ascii_digits word ≡ false → None ≡ digits_of least most word
digits_none word least most more less other = sym (digits_tested word least most more less ∙ ap (λ (t : Bool). cond t (Some (digits_value 10 word)) None) other)

below : (v n : ℕ) → v < 1000000000 → n ≡ min v 10000000000 → v ≡ n
below v n less is = omega arith

value_short : (word : List ℕ) → all_ascii_digits word ≡ true → length word ≤ 4 → digits_value 10 word < 10000
value_short word digits short = digits_value_short own word 4 digits short

-- a capped number of at most nine digits is the number
pub digits_is : (word : List ℕ) (least most n : ℕ) → most ≤ 9 → least ≤ length word → length word ≤ most → all_ascii_digits word ≡ true → n ≡ min (digits_value 10 word) 10000000000 → Some n ≡ digits_of least most word
digits_is word least most n nine more less digits is =
    sym (digits_tested word least most more less ∙ ap (λ (t : Bool). cond t (Some (digits_value 10 word)) None) digits ∙ ap Some (below (digits_value 10 word) n (short_number word digits (omega arith)) is))

pub digits_within : (word : List ℕ) (most n : ℕ) → most ≤ 9 → length word ≤ most → all_ascii_digits word ≡ true → n ≡ min (digits_value 10 word) 10000000000 → n < 1000000000
digits_within word most n nine less digits is = omega (arith, short_number word digits (omega arith))

pub digits_small : (word : List ℕ) (most n : ℕ) → most ≤ 4 → length word ≤ most → all_ascii_digits word ≡ true → n ≡ min (digits_value 10 word) 10000000000 → n < 10000
digits_small word most n four less digits is = omega (arith, value_short word digits (omega arith))

-- numbers of at most ten digits
ten_short : (word : List ℕ) → all_ascii_digits word ≡ true → length word ≤ 10 → digits_value 10 word < 10000000000
ten_short word digits short = digits_value_short own word 10 digits short

capped_is : (v n : ℕ) → v < 10000000000 → n ≡ min v 10000000000 → v ≡ n
capped_is v n less is = omega arith

pub long_digits : (word : List ℕ) (least most : ℕ) (found : Option ℕ) → most ≤ 10 → least ≤ length word → length word ≤ most → MatchOption found (all_ascii_digits word ≡ false) (λ n. (all_ascii_digits word ≡ true) × (n ≡ min (digits_value 10 word) 10000000000)) → found ≡ digits_of least most word
long_digits word least most None ten more less none = digits_none word least most more less none
long_digits word least most (Some n) ten more less is =
    sym (digits_tested word least most more less ∙ ap (λ (t : Bool). cond t (Some (digits_value 10 word)) None) is.0 ∙ ap Some (capped_is (digits_value 10 word) n (ten_short word is.0 (omega arith)) is.1))

pub long_within : (word : List ℕ) (most : ℕ) (found : Option ℕ) → most ≤ 10 → length word ≤ most → MatchOption found (all_ascii_digits word ≡ false) (λ n. (all_ascii_digits word ≡ true) × (n ≡ min (digits_value 10 word) 10000000000)) → IfSome found (λ n. n < 10000000000)
long_within word most None ten less none = tt
long_within word most (Some n) ten less is = let small = ten_short word is.0 (omega arith) in omega (arith, is.1, small)
