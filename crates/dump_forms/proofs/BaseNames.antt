-- What the names of the tapes of a new dump set begin with: a tape's name with room left for a number.
use Rattle.std.proofs.Common.{◌≡◌, ℕ, ◌≤◌, List, [], ◌∷◌, ◌++◌, length, refl, sym, ◌∙◌, ap, subst, arith, length-append, lit<}
use Rattle.std.specs.Prelude.{Option, Some, None, All}
use Rattle.std.specs.List.{last_or}
use Rattle.std.specs.Option.{unwrap_or}
use Rattle.std.proofs.lemmas.List.Elements.{All-cons, All-append, All-head, All-tail, All-weaker}
use Rattle.bk_text.specs.Alphabets.{IsNameByte, IsSetNameByte, IsElement, IsSetName, IsTapeName}
use Rattle.bk_text.specs.LevelPaths.{IsPathOf, IsLevelPath}
use Rattle.bk_text.proofs.LevelParts.{has_last, elements_are}
use Rattle.dump_job.specs.Beginning.{last_element}

last_or_end : (o : Option (List ℕ)) (es : List (List ℕ)) (e : List ℕ) → last_or o (es ++ e ∷ []) ≡ Some e
last_or_end o [] e = refl
last_or_end o (x ∷ xs) e = last_or_end (Some x) xs e

last_of_parts : (path : List ℕ) (before : List (List ℕ)) (last : List ℕ) → IsPathOf (before ++ last ∷ []) path → last ≡ last_element path
last_of_parts path before last whole = sym (ap (λ (l : List (List ℕ)). unwrap_or (last_or None l) []) (elements_are _ path whole) ∙ ap (λ (o : Option (List ℕ)). unwrap_or o []) (last_or_end None before last))

each_last : (es : List (List ℕ)) (e : List ℕ) → All IsElement (es ++ e ∷ []) → IsElement e
each_last [] e each = All-head IsElement e [] each
each_last (f ∷ fs) e each = each_last fs e (All-tail IsElement f (fs ++ e ∷ []) each)

last_is_element : (path : List ℕ) → IsLevelPath path → IsElement (last_element path)
last_is_element path is =
    let parts = has_last is.elements is.some in
    let whole : IsPathOf (parts.before ++ parts.last ∷ []) path = subst (λ (l : List (List ℕ)). IsPathOf l path) parts.is is.is in
    subst IsElement (last_of_parts path parts.before parts.last whole) (each_last parts.before parts.last whole.each)

period : IsNameByte 46
period = (lit< tt, lit< tt, λ (e : 46 ≡ 47). omega arith)

set_bytes : (set : List ℕ) → IsSetName set → All IsNameByte set
set_bytes set is = All-weaker IsSetNameByte IsNameByte (λ b named. named.0) set is.each

-- a volume set and an element of a level are a base
pub base_is_name : (set path : List ℕ) → IsSetName set → IsLevelPath path → IsTapeName (set ++ 46 ∷ last_element path)
base_is_name set path is_set is_path =
    let last = last_is_element path is_path in
    record {
      some = omega (arith, is_set.some, length-append set (46 ∷ last_element path));
      short = omega (arith, is_set.short, last.short, length-append set (46 ∷ last_element path));
      first = tt;
      each = All-append IsNameByte set (46 ∷ last_element path) (set_bytes set is_set) (All-cons IsNameByte 46 (last_element path) period last.each);
    }

pub base_is_short : (set path : List ℕ) → IsSetName set → IsLevelPath path → length (set ++ 46 ∷ last_element path) ≤ 69
base_is_short set path is_set is_path = (let last = last_is_element path is_path in omega (arith, is_set.short, last.short, length-append set (46 ∷ last_element path)))
