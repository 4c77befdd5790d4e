-- The elements of a level's path: there is one list of them, and where the last one stands.
use Rattle.std.proofs.Common.{zero, suc, ◌≡◌, ◌≢◌, ℕ, ◌+◌, ◌-◌, ◌<◌, ◌≤◌, List, [], ◌∷◌, ◌++◌, length, take, drop, get_or, refl, sym, ◌∙◌, ap, subst, arith, length-append, append_assoc, false, ◌==◌, inl, inr}
use Rattle.std.specs.Prelude.{All, Some, None}
use Rattle.std.specs.List.{count_by, slice_split}
use Rattle.std.proofs.lemmas.Bool.{ne_eqb, cases_lt}
use Rattle.std.proofs.lemmas.Grind.{flat_map-append}
use Rattle.std.proofs.lemmas.List.{append-nil, get_or-append-add, take-append-le, drop-append-le, drop_all, take_all, length-take}
use Rattle.std.proofs.lemmas.List.Splits.{slice_split_none, slice_split_at, length-slice_split}
use Rattle.std.proofs.lemmas.List.Elements.{All-get_or, All-cons, All-nil, All-head, All-tail, All-weaker}
use Rattle.bk_text.specs.Alphabets.{IsNameByte, IsElement}
use Rattle.bk_text.specs.LevelPaths.{path_of, elements_of, IsPathOf, IsLevelPath, IsLastSlash, IsAbove}

-- a list with an element has a last one
pub record HasLast (elements : List (List ℕ)) : Type 0 where
  pub before : List (List ℕ)
  pub last : List ℕ
  pub is : elements ≡ before ++ last ∷ []

last_of : (e : List ℕ) (es : List (List ℕ)) → HasLast (e ∷ es)
last_of e [] = record { before = []; last = e; is = refl }
last_of e (f ∷ fs) = let tail = last_of f fs in record { before = e ∷ tail.before; last = tail.last; is = ap (λ (l : List (List ℕ)). e ∷ l) tail.is }

pub has_last : (elements : List (List ℕ)) → 0 < length elements → HasLast elements
has_last [] some = absurd (omega arith)
has_last (e ∷ es) some = last_of e es

-- a path with its last element apart
pub path_parts : (es : List (List ℕ)) (e text : List ℕ) → IsPathOf (es ++ e ∷ []) text → text ≡ path_of es ++ (47 ∷ e)
path_parts es e text is = is.joined ∙ flat_map-append (λ (x : List ℕ). 47 ∷ x) es (e ∷ []) ∙ ap (λ (l : List ℕ). path_of es ++ (47 ∷ l)) (append-nil e)

each_last : (es : List (List ℕ)) (e : List ℕ) → All IsElement (es ++ e ∷ []) → IsElement e
each_last [] e each = All-head IsElement e [] each
each_last (f ∷ fs) e each = each_last fs e (All-tail IsElement f (fs ++ e ∷ []) each)

each_before : (es : List (List ℕ)) (e : List ℕ) → All IsElement (es ++ e ∷ []) → All IsElement es
each_before [] e each = All-nil IsElement
each_before (f ∷ fs) e each = All-cons IsElement f fs (All-head IsElement f (fs ++ e ∷ []) each) (each_before fs e (All-tail IsElement f (fs ++ e ∷ []) each))

plus_none : (n : ℕ) → n ≡ n + 0
plus_none n = omega arith

-- the last slash, and no slash behind it
pub slash_there : (es : List (List ℕ)) (e text : List ℕ) → IsPathOf (es ++ e ∷ []) text → get_or text (length (path_of es)) 0 ≡ 47
slash_there es e text is = ap (λ (l : List ℕ). get_or l (length (path_of es)) 0) (path_parts es e text is) ∙ ap (λ (k : ℕ). get_or (path_of es ++ 47 ∷ e) k 0) (plus_none (length (path_of es))) ∙ get_or-append-add (path_of es) (47 ∷ e) 0 0

pub path_length : (es : List (List ℕ)) (e text : List ℕ) → IsPathOf (es ++ e ∷ []) text → length text ≡ length (path_of es) + 1 + length e
path_length es e text is = omega (arith, ap length (path_parts es e text is), length-append (path_of es) (47 ∷ e))

name_byte_behind : (e : List ℕ) (k : ℕ) → All IsNameByte e → k < length e → get_or (47 ∷ e) (suc k) 0 ≢ 47
name_byte_behind e k each within = (All-get_or IsNameByte e k 0 within each).2

beyond_by : (es : List (List ℕ)) (e text : List ℕ) (k : ℕ) → IsPathOf (es ++ e ∷ []) text → k < length e → get_or text (length (path_of es) + suc k) 0 ≢ 47
beyond_by es e text k is within slash =
    name_byte_behind e k (each_last es e is.each).each within (sym (ap (λ (l : List ℕ). get_or l (length (path_of es) + suc k) 0) (path_parts es e text is) ∙ get_or-append-add (path_of es) (47 ∷ e) (suc k) 0) ∙ slash)

pub no_slash_beyond : (es : List (List ℕ)) (e text : List ℕ) (at : ℕ) → IsPathOf (es ++ e ∷ []) text → at < length text → length (path_of es) < at → get_or text at 0 ≢ 47
no_slash_beyond es e text at is within beyond slash =
    let place : at ≡ length (path_of es) + suc (at - length (path_of es) - 1) = omega arith in
    beyond_by es e text (at - length (path_of es) - 1) is (omega (arith, path_length es e text is)) (subst (λ (k : ℕ). get_or text k 0 ≡ 47) place slash)

-- a path has a byte, and a slash as first one
pub path_some : (text : List ℕ) → IsLevelPath text → 0 < length text
path_some text path =
    let parts = has_last path.elements path.some in
    omega (arith, path_length parts.before parts.last text (subst (λ (l : List (List ℕ)). IsPathOf l text) parts.is path.is))

path_first : (elements : List (List ℕ)) (text : List ℕ) → 0 < length elements → text ≡ path_of elements → get_or text 0 0 ≡ 47
path_first [] text some joined = absurd (omega arith)
path_first (e ∷ es) text some joined = ap (λ (l : List ℕ). get_or l 0 0) joined

pub first_slash : (text : List ℕ) → IsLevelPath text → get_or text 0 0 ≡ 47
first_slash text path = path_first path.elements text path.some path.is.joined

-- the last slash is not behind this place
pub record SlashUpTo (text : List ℕ) (at : ℕ) : Type 0 where
  pub within : at < length text
  pub up_to : (elements : List (List ℕ)) (last : List ℕ) → IsPathOf (elements ++ last ∷ []) text → length (path_of elements) ≤ at

pub from_the_end : (text : List ℕ) → IsLevelPath text → SlashUpTo text (length text - 1)
from_the_end text path = record {
  within = omega (arith, path_some text path);
  up_to = λ elements last is. omega (arith, path_length elements last text is);
}

not_there : (a at : ℕ) → a ≤ at → (a ≡ at → ⊥) → a ≤ at - 1
not_there a at under apart = omega arith

pub one_less : (text : List ℕ) (at : ℕ) → SlashUpTo text at → get_or text at 0 ≢ 47 → SlashUpTo text (at - 1)
one_less text at so_far other = record {
  within = omega (arith, so_far.within);
  up_to = λ elements last is. not_there (length (path_of elements)) at (so_far.up_to elements last is) (λ same. other (subst (λ (k : ℕ). get_or text k 0 ≡ 47) same (slash_there elements last text is)));
}

pub more_left : (text : List ℕ) (at : ℕ) → IsLevelPath text → get_or text at 0 ≢ 47 → 0 < at
more_left text zero path other = absurd (other (first_slash text path))
more_left text (suc n) path other = omega arith

pub found : (text : List ℕ) (at : ℕ) → SlashUpTo text at → get_or text at 0 ≡ 47 → IsLastSlash text at
found text at so_far slash elements last is =
    elim (cases_lt (length (path_of elements)) at) [
      | inl before ↦ absurd (no_slash_beyond elements last text at is so_far.within before slash)
      | inr not_before ↦ omega (arith, so_far.up_to elements last is)
    ]

-- what stands behind and before the last slash
drop_front : (xs : List ℕ) (b : ℕ) (ys : List ℕ) → drop (length xs + 1) (xs ++ b ∷ ys) ≡ ys
drop_front xs b ys =
    let longer : length (xs ++ b ∷ []) ≡ length xs + 1 = length-append xs (b ∷ []) in
    ap (drop (length xs + 1)) (sym (append_assoc xs (b ∷ []) ys)) ∙ drop-append-le (length xs + 1) (xs ++ b ∷ []) ys (omega arith) ∙ ap (λ (l : List ℕ). l ++ ys) (drop_all (length xs + 1) (xs ++ b ∷ []) (omega arith))

pub behind_slash : (text : List ℕ) (at : ℕ) → IsLastSlash text at → (es : List (List ℕ)) (e : List ℕ) → IsPathOf (es ++ e ∷ []) text → drop (at + 1) text ≡ e
behind_slash text at slash es e is =
    let place : at ≡ length (path_of es) = slash es e is in
    ap (λ (k : ℕ). drop (k + 1) text) place ∙ ap (drop (length (path_of es) + 1)) (path_parts es e text is) ∙ drop_front (path_of es) 47 e

pub before_slash : (text : List ℕ) (at : ℕ) → IsLastSlash text at → (es : List (List ℕ)) (e : List ℕ) → IsPathOf (es ++ e ∷ []) text → take at text ≡ path_of es
before_slash text at slash es e is =
    let place : at ≡ length (path_of es) = slash es e is in
    ap (λ (k : ℕ). take k text) place ∙ ap (take (length (path_of es))) (path_parts es e text is) ∙ take-append-le (length (path_of es)) (path_of es) (47 ∷ e) (omega arith) ∙ take_all (length (path_of es)) (path_of es) (omega arith)

pub path_before : (text : List ℕ) (at : ℕ) → IsLastSlash text at → (es : List (List ℕ)) (e : List ℕ) → IsPathOf (es ++ e ∷ []) text → IsPathOf es (take at text)
path_before text at slash es e is = record { each = each_before es e is.each; joined = before_slash text at slash es e is }

some_of : (es : List (List ℕ)) → 0 < length (path_of es) → 0 < length es
some_of [] some = some
some_of (e ∷ es) some = omega arith

none_of : (es : List (List ℕ)) → length (path_of es) ≡ 0 → es ≡ []
none_of [] none = refl
none_of (e ∷ es) none = absurd (omega arith)

pub nothing_above : (text : List ℕ) (at : ℕ) → IsLastSlash text at → at ≡ 0 → (es : List (List ℕ)) (e : List ℕ) → IsPathOf (es ++ e ∷ []) text → IsAbove es None
nothing_above text at slash front es e is = none_of es (sym (slash es e is) ∙ front)

pub some_above : (text up : List ℕ) (at : ℕ) → IsLastSlash text at → at ≢ 0 → up ≡ take at text → (es : List (List ℕ)) (e : List ℕ) → IsPathOf (es ++ e ∷ []) text → IsAbove es (Some up)
some_above text up at slash behind same es e is = (some_of es (omega (arith, slash es e is)), subst (IsPathOf es) (sym same) (path_before text at slash es e is))

pub above_is_path : (text : List ℕ) (at : ℕ) → IsLevelPath text → IsLastSlash text at → at ≢ 0 → IsLevelPath (take at text)
above_is_path text at path slash behind =
    let parts = has_last path.elements path.some in
    let is : IsPathOf (parts.before ++ parts.last ∷ []) text = subst (λ (l : List (List ℕ)). IsPathOf l text) parts.is path.is in
    record {
      elements = parts.before;
      some = some_of parts.before (omega (arith, slash parts.before parts.last is));
      short = omega (arith, path.short, length-take at text);
      is = path_before text at slash parts.before parts.last is;
    }

-- the pieces between the slashes are the elements, so there is one list of them
no_slash : (e : List ℕ) → IsElement e → All (λ b. (b == 47) ≡ false) e
no_slash e is = All-weaker IsNameByte (λ b. (b == 47) ≡ false) (λ b name. ne_eqb b 47 name.2) e is.each

pieces_of : (e : List ℕ) (es : List (List ℕ)) → IsElement e → All IsElement es → slice_split (λ b. b == 47) (e ++ path_of es) ≡ e ∷ es
pieces_of e [] is each = ap (slice_split (λ b. b == 47)) (append-nil e) ∙ slice_split_none (λ b. b == 47) e (no_slash e is)
pieces_of e (f ∷ fs) is each =
    slice_split_at (λ b. b == 47) e 47 (f ++ path_of fs) (no_slash e is) refl ∙ ap (λ (l : List (List ℕ)). e ∷ l) (pieces_of f fs (All-head IsElement f fs each) (All-tail IsElement f fs each))

pub path_pieces : (elements : List (List ℕ)) → All IsElement elements → slice_split (λ b. b == 47) (path_of elements) ≡ [] ∷ elements
path_pieces [] each = refl
path_pieces (e ∷ es) each = ap (λ (l : List (List ℕ)). [] ∷ l) (pieces_of e es (All-head IsElement e es each) (All-tail IsElement e es each))

-- as many slashes as elements
pub slashes_of : (elements : List (List ℕ)) (text : List ℕ) → IsPathOf elements text → count_by (λ b. b == 47) text ≡ length elements
slashes_of elements text is =
    let pieces : slice_split (λ b. b == 47) text ≡ [] ∷ elements = ap (slice_split (λ b. b == 47)) is.joined ∙ path_pieces elements is.each in
    omega (arith, ap length pieces, length-slice_split (λ b. b == 47) text)

-- one list of elements alone makes a text
pub one_list : (es fs : List (List ℕ)) (text : List ℕ) → IsPathOf es text → IsPathOf fs text → es ≡ fs
one_list es fs text a b =
    let pieces_a : slice_split (λ b. b == 47) text ≡ [] ∷ es = ap (slice_split (λ b. b == 47)) a.joined ∙ path_pieces es a.each in
    let pieces_b : slice_split (λ b. b == 47) text ≡ [] ∷ fs = ap (slice_split (λ b. b == 47)) b.joined ∙ path_pieces fs b.each in
    cc

-- the elements of a path that these elements make are these
pub elements_are : (elements : List (List ℕ)) (text : List ℕ) → IsPathOf elements text → elements_of text ≡ elements
elements_are elements text is = ap (drop 1) (ap (slice_split (λ b. b == 47)) is.joined ∙ path_pieces elements is.each)

pub of_path : (text : List ℕ) → IsLevelPath text → IsPathOf (elements_of text) text
of_path text path = subst (λ (es : List (List ℕ)). IsPathOf es text) (sym (elements_are path.elements text path.is)) path.is
