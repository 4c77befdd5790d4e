-- A text goes on behind another with a slash, or ends there, exactly where its elements begin with the other's.
use Rattle.std.proofs.Common.{suc, ◌≡◌, ◌≢◌, ℕ, List, [], ◌∷◌, ◌++◌, length, take, drop, refl, sym, ◌∙◌, ap, arith, Bool, true, false, ◌==◌, ◌||◌}
use Rattle.std.specs.Prelude.{None, slice_index, Decides}
use Rattle.std.specs.List.{slice_split}
use Rattle.std.specs.Cmp.Lexicographic.{pointwise}
use Rattle.std.proofs.lemmas.Bool.{eqb-true, eq-eqb, eqb-false, ne_eqb}
use Rattle.std.proofs.lemmas.List.{append-nil, append_cancel_left}
use Rattle.std.proofs.lemmas.Slice.Eq.{slice_eq-Decides, starts_is, strip_prefix_is}
use Rattle.bk_text.specs.LevelPaths.{path_of, IsLevelPath}
use Rattle.bk_text.specs.Blanks.{is_same_text}
use Rattle.bk_text.specs.LevelPaths.{elements_of}
use Rattle.dump_levels.specs.Elements.{is_within}
use Rattle.dump_levels.proofs.ElementLaws.{elements_behind, text_behind}

-- `==` on numbers decides
pub same_numbers : (a b : ℕ) → Decides (a == b) (a ≡ b)
same_numbers a b = (eqb-true a b, eq-eqb a b)

-- what it is that elements begin with others
within_is : (upper path : List ℕ) → (is_within upper path ≡ true → elements_of path ≡ elements_of upper ++ drop (length (elements_of upper)) (elements_of path)) × ((rest : List (List ℕ)) → elements_of path ≡ elements_of upper ++ rest → is_within upper path ≡ true)
within_is upper path = starts_is (λ a b. slice_eq-Decides same_numbers a b (is_same_text a b) refl) (elements_of path) (elements_of upper) (is_within upper path) refl

pub apart : (upper path : List ℕ) → IsLevelPath upper → IsLevelPath path → ((rest : List ℕ) → path ≢ upper ++ rest) → false ≡ is_within upper path
apart upper path is_upper is_path other = go (is_within upper path) refl
  where
    go : (t : Bool) → is_within upper path ≡ t → false ≡ is_within upper path
    go true is = absurd (other _ (text_behind upper path (drop (length (elements_of upper)) (elements_of path)) is_upper is_path ((within_is upper path).0 is)))
    go false is = sym is

no_slash : (b : ℕ) (r : List ℕ) (more : List (List ℕ)) → (b ≡ 47 → ⊥) → b ∷ r ≡ path_of more → ⊥
no_slash b r [] other same = absurd cc
no_slash b r (m ∷ ms) other same = other cc

suc_some : (n : ℕ) → suc n ≢ 0
suc_some n same = omega arith

pub behind : (upper path rest : List ℕ) → IsLevelPath upper → IsLevelPath path → path ≡ upper ++ rest → ((length rest == 0) || (slice_index rest 0 == 47)) ≡ is_within upper path
behind upper path [] is_upper is_path joined =
    sym ((within_is upper path).1 [] (ap elements_of (joined ∙ append-nil upper) ∙ sym (append-nil (elements_of upper))))
behind upper path (b ∷ r) is_upper is_path joined = ap (λ (t : Bool). t || (b == 47)) (ne_eqb (suc (length r)) 0 (suc_some (length r))) ∙ go (b == 47) refl
  where
    inside : (t : Bool) → (b ≡ 47 → ⊥) → is_within upper path ≡ t → false ≡ is_within upper path
    inside true other is = absurd (no_slash b r (drop (length (elements_of upper)) (elements_of path)) other (append_cancel_left upper (b ∷ r) (path_of (drop (length (elements_of upper)) (elements_of path))) (sym joined ∙ text_behind upper path (drop (length (elements_of upper)) (elements_of path)) is_upper is_path ((within_is upper path).0 is))))
    inside false other is = sym is

    go : (t : Bool) → (b == 47) ≡ t → t ≡ is_within upper path
    go true is = sym ((within_is upper path).1 (slice_split (λ x. x == 47) r) (elements_behind upper path r is_upper (joined ∙ ap (λ (k : ℕ). upper ++ k ∷ r) (eqb-true b 47 is))))
    go false is = inside (is_within upper path) (eqb-false b 47 is) refl

-- a text that has no such front
pub no_front : (upper path front text : List ℕ) → front ≡ upper → text ≡ path → IsLevelPath upper → IsLevelPath path → pointwise (λ a b. a == b) (take (length front) text) front ≡ false → false ≡ is_within upper path
no_front upper path front text is_front is_text is_upper is_path differs =
    apart upper path is_upper is_path (λ rest joined. strip_prefix_is same_numbers text front None differs rest (is_text ∙ joined ∙ ap (λ (l : List ℕ). l ++ rest) (sym is_front)))
