-- The elements of a path, one list of them, and what stands above and below.
use Rattle.std.proofs.Common.{◌≡◌, ℕ, ◌-◌, List, [], ◌∷◌, ◌++◌, length, take, drop, refl, sym, ◌∙◌, ap, subst, arith, false, ◌==◌, length-append, append_assoc}
use Rattle.std.specs.Prelude.{All, Option, Some, None, Result, Ok, Err, IfOk}
use Rattle.std.specs.List.{slice_split}
use Rattle.std.proofs.lemmas.Bool.{ne_eqb}
use Rattle.std.proofs.lemmas.Grind.{flat_map-append}
use Rattle.std.proofs.lemmas.List.{append-nil}
use Rattle.std.proofs.lemmas.List.Splits.{slice_split_at}
use Rattle.std.proofs.lemmas.List.Elements.{All-head, All-tail, All-weaker}
use Rattle.bk_text.specs.Alphabets.{IsNameByte, IsElement}
use Rattle.bk_text.specs.LevelPaths.{path_of, elements_of, IsPathOf, IsLevelPath, IsAbove}
use Rattle.bk_text.proofs.LevelParts.{has_last, elements_are, of_path}
use Rattle.dump_levels.specs.Elements.{front_path, path_above}

no_slash : (e : List ℕ) → IsElement e → All (λ b. (b == 47) ≡ false) e
no_slash e is = All-weaker IsNameByte (λ b. (b == 47) ≡ false) (λ b name. ne_eqb b 47 name.2) e is.each

-- a path with a slash behind it has its elements, and then those of what follows
split_from : (f : List ℕ) (fs : List (List ℕ)) (r : List ℕ) → IsElement f → All IsElement fs → slice_split (λ b. b == 47) ((f ++ path_of fs) ++ 47 ∷ r) ≡ f ∷ (fs ++ slice_split (λ b. b == 47) r)
split_from f [] r is each = ap (λ (l : List ℕ). slice_split (λ b. b == 47) (l ++ 47 ∷ r)) (append-nil f) ∙ slice_split_at (λ b. b == 47) f 47 r (no_slash f is) refl
split_from f (g ∷ gs) r is each =
    ap (slice_split (λ b. b == 47)) (append_assoc f (47 ∷ (g ++ path_of gs)) (47 ∷ r)) ∙ slice_split_at (λ b. b == 47) f 47 ((g ++ path_of gs) ++ 47 ∷ r) (no_slash f is) refl ∙ ap (λ (l : List (List ℕ)). f ∷ l) (split_from g gs r (All-head IsElement g gs each) (All-tail IsElement g gs each))

split_then : (fs : List (List ℕ)) (r : List ℕ) → All IsElement fs → elements_of (path_of fs ++ 47 ∷ r) ≡ fs ++ slice_split (λ b. b == 47) r
split_then [] r each = refl
split_then (f ∷ fs) r each = split_from f fs r (All-head IsElement f fs each) (All-tail IsElement f fs each)

pub elements_behind : (upper path r : List ℕ) → IsLevelPath upper → path ≡ upper ++ 47 ∷ r → elements_of path ≡ elements_of upper ++ slice_split (λ b. b == 47) r
elements_behind upper path r is joined =
    let whole = of_path upper is in
    ap elements_of (joined ∙ ap (λ (l : List ℕ). l ++ 47 ∷ r) whole.joined) ∙ split_then (elements_of upper) r whole.each

-- a path whose elements begin with another's goes on behind it
pub text_behind : (upper path : List ℕ) (more : List (List ℕ)) → IsLevelPath upper → IsLevelPath path → elements_of path ≡ elements_of upper ++ more → path ≡ upper ++ path_of more
text_behind upper path more is_upper is_path same =
    (of_path path is_path).joined ∙ ap path_of same ∙ flat_map-append (λ (x : List ℕ). 47 ∷ x) (elements_of upper) more ∙ ap (λ (l : List ℕ). l ++ path_of more) (sym (of_path upper is_upper).joined)

-- what stands at the front of a list whose end is cut off
take_front : (es : List (List ℕ)) (e : List ℕ) → take (length es) (es ++ e ∷ []) ≡ es
take_front [] e = refl
take_front (x ∷ xs) e = ap (λ (l : List (List ℕ)). x ∷ l) (take_front xs e)

one_off : (es : List (List ℕ)) (e : List ℕ) → length (es ++ e ∷ []) - 1 ≡ length es
one_off es e = omega (arith, length-append es (e ∷ []))

-- the path above is what `LevelPath::above` answers
front_of : (es : List (List ℕ)) (e : List ℕ) (up : Option (List ℕ)) → IsAbove es up → up ≡ front_path (length es) (es ++ e ∷ [])
front_of [] e None is = refl
front_of [] e (Some q) is = absurd (omega (arith, is.0))
front_of (x ∷ xs) e None is = absurd cc
front_of (x ∷ xs) e (Some q) is = ap Some (is.1.joined ∙ ap path_of (sym (take_front (x ∷ xs) e)))

pub above_is : (path : List ℕ) (up : Option (List ℕ)) → IsLevelPath path → ((es : List (List ℕ)) (e : List ℕ) → IsPathOf (es ++ e ∷ []) path → IsAbove es up) → up ≡ path_above path
above_is path up is above =
    let parts = has_last is.elements is.some in
    let whole : IsPathOf (parts.before ++ parts.last ∷ []) path = subst (λ (l : List (List ℕ)). IsPathOf l path) parts.is is.is in
    let elements : elements_of path ≡ parts.before ++ parts.last ∷ [] = elements_are _ path whole in
    front_of parts.before parts.last up (above parts.before parts.last whole) ∙ ap (λ (n : ℕ). front_path n (parts.before ++ parts.last ∷ [])) (sym (one_off parts.before parts.last)) ∙ ap (λ (l : List (List ℕ)). front_path (length l - 1) l) (sym elements)

pub ok_above : {E : Type 0} (path : List ℕ) (r : Result (Option (List ℕ)) E) → IsLevelPath path → ((es : List (List ℕ)) (e : List ℕ) → IsPathOf (es ++ e ∷ []) path → IfOk r (IsAbove es)) → IfOk r (λ up. up ≡ path_above path)
ok_above path (Ok up) is above = above_is path up is above
ok_above path (Err fault) is above = tt
