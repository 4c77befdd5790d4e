-- Words byte by byte.
use Rattle.std.proofs.Common.{zero, suc, ◌≡◌, ℕ, ◌+◌, ◌<◌, ◌≤◌, List, [], ◌∷◌, ◌++◌, length, take, get_or, refl, sym, ◌∙◌, subst, arith, length-append}
use Rattle.std.proofs.lemmas.List.{take_all, length-take-le, get_or-take, get_or_append_left}
use Rattle.std.proofs.lemmas.List.Elements.{All-get_or, All-more, All-cons, All-nil}
use Rattle.bk_text.specs.Places.{Begun, FailsAt}
use Rattle.bk_text.specs.Alphabets.{IsNameByte}
use Rattle.bk_text.specs.Words.{Allowed, AllowedFirst, IsWordOf, MayStand}
use Rattle.bk_text.specs.declared.words.Alphabet.{Alphabet}
use Rattle.bk_text.specs.declared.words.Alphabet.TheVariants.{Plain, NoPeriod, AnyFirst, Printable}
use Rattle.bk_text.proofs.Fails.{whole_begun, stops_at, ends_early}
use Rattle.std.proofs.Common.{lit<}
use Rattle.std.specs.Prelude.{All}

-- the letter a is a word of each alphabet
a_plain : IsNameByte 97
a_plain = (lit< tt, lit< tt, λ (e : 97 ≡ 47). omega arith)

pub a_allowed : (alphabet : Alphabet) → Allowed alphabet 97
a_allowed Plain = a_plain
a_allowed NoPeriod = (a_plain, λ (e : 97 ≡ 46). omega arith)
a_allowed AnyFirst = a_plain
a_allowed Printable = (lit< tt, lit< tt)

pub a_first : (alphabet : Alphabet) → AllowedFirst alphabet 97
a_first Plain = λ (e : 97 ≡ 45). omega arith
a_first NoPeriod = λ (e : 97 ≡ 45). omega arith
a_first AnyFirst = tt
a_first Printable = tt

a_word : (alphabet : Alphabet) (most : ℕ) → 0 < most → IsWordOf alphabet most (97 ∷ [])
a_word alphabet most some = record {
  some = omega arith;
  short = omega arith;
  first = a_first alphabet;
  each = All-cons (Allowed alphabet) 97 [] (a_allowed alphabet) (All-nil (Allowed alphabet));
}

pub nothing_begun : (alphabet : Alphabet) (most : ℕ) → 0 < most → Begun (IsWordOf alphabet most) []
nothing_begun alphabet most some = (97 ∷ [], a_word alphabet most some)

-- so far it is a word, or nothing
pub record Goes (alphabet : Alphabet) (most at : ℕ) (text : List ℕ) : Type 0 where
  pub short : at ≤ most
  pub first : 0 < at → AllowedFirst alphabet (get_or text 0 0)
  pub each : All (Allowed alphabet) (take at text)

pub goes_more : (alphabet : Alphabet) (most at : ℕ) (text : List ℕ) → at < length text → Goes alphabet most at text → MayStand alphabet most at (get_or text at 0) → Goes alphabet most (at + 1) text
goes_more alphabet most zero text within goes may = record {
  short = omega (arith, may.0);
  first = λ _. may.2 refl;
  each = All-more (Allowed alphabet) text 0 0 within goes.each may.1;
}
goes_more alphabet most (suc n) text within goes may = record {
  short = omega (arith, may.0);
  first = λ _. goes.first (omega arith);
  each = All-more (Allowed alphabet) text (suc n) 0 within goes.each may.1;
}

-- what goes so far is a word, where it has a byte
pub goes_word : (alphabet : Alphabet) (most at : ℕ) (text : List ℕ) → 0 < at → at ≤ length text → Goes alphabet most at text → IsWordOf alphabet most (take at text)
goes_word alphabet most at text some within goes = record {
  some = omega (arith, length-take-le at text within);
  short = omega (arith, length-take-le at text within, goes.short);
  first = subst (AllowedFirst alphabet) (sym (get_or-take at text 0 0 some)) (goes.first some);
  each = goes.each;
}

pub goes_begun : (alphabet : Alphabet) (most at : ℕ) (text : List ℕ) → 0 < most → at ≤ length text → Goes alphabet most at text → Begun (IsWordOf alphabet most) (take at text)
goes_begun alphabet most zero text some within goes = nothing_begun alphabet most some
goes_begun alphabet most (suc n) text some within goes = whole_begun (IsWordOf alphabet most) (take (suc n) text) (goes_word alphabet most (suc n) text (omega arith) within goes)

-- a word has at each place a byte that may stand there
word_stands : (alphabet : Alphabet) (most : ℕ) (word : List ℕ) (at : ℕ) → IsWordOf alphabet most word → at < length word → MayStand alphabet most at (get_or word at 0)
word_stands alphabet most word at is within = (omega (arith, is.short), All-get_or (Allowed alphabet) word at 0 within is.each, λ e. subst (λ (k : ℕ). AllowedFirst alphabet (get_or word k 0)) (sym e) is.first)

pub word_fails : (alphabet : Alphabet) (most at : ℕ) (text : List ℕ) → 0 < most → at < length text → Goes alphabet most at text → (MayStand alphabet most at (get_or text at 0) → ⊥) → FailsAt (IsWordOf alphabet most) text at
word_fails alphabet most at text some within goes may_not =
    stops_at (IsWordOf alphabet most) text at within (goes_begun alphabet most at text some (omega arith) goes) (λ (rest, is).
    let front : length (take (at + 1) text) ≡ at + 1 = length-take-le (at + 1) text (omega arith) in
    let there : at < length (take (at + 1) text ++ rest) = omega (arith, length-append (take (at + 1) text) rest, front) in
    let same : get_or (take (at + 1) text ++ rest) at 0 ≡ get_or text at 0 = get_or_append_left (take (at + 1) text) rest 0 at (omega arith) ∙ get_or-take (at + 1) text at 0 (omega arith) in
    may_not (subst (MayStand alphabet most at) same (word_stands alphabet most (take (at + 1) text ++ rest) at is there)))

pub word_whole : (alphabet : Alphabet) (most : ℕ) (text : List ℕ) → 0 < length text → Goes alphabet most (length text) text → IsWordOf alphabet most text
word_whole alphabet most text some goes = subst (IsWordOf alphabet most) (take_all (length text) text (omega arith)) (goes_word alphabet most (length text) text some (omega arith) goes)

pub nothing_fails : (alphabet : Alphabet) (most : ℕ) (text : List ℕ) → 0 < most → length text ≡ 0 → FailsAt (IsWordOf alphabet most) text 0
nothing_fails alphabet most [] some none = ends_early (IsWordOf alphabet most) [] (nothing_begun alphabet most some) (λ is. absurd (omega (arith, is.some)))
nothing_fails alphabet most (b ∷ bs) some none = absurd (omega arith)
