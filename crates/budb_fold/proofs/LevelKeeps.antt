-- What the calls on levels keep: each path once, behind the one above it.
use Rattle.std.proofs.Common.{zero, suc, ◌≡◌, ℕ, ◌-◌, List, [], ◌∷◌, ◌++◌, length, take, drop, Bool, true, false, cond, not, refl, sym, ◌∙◌, ap, subst, inl, inr, append_assoc}
use Rattle.std.specs.Prelude.{All, map, filter, ◌==◌, ◌||◌, if◌then◌else◌, Option, Some, None, Ok, Err, Decides}
use Rattle.std.specs.List.{slice_split, onto_first}
use Rattle.std.proofs.lemmas.Bool.{cases_Bool, eqb-true, eq-eqb}
use Rattle.std.proofs.lemmas.List.{append-nil, take-append-drop}
use Rattle.std.proofs.lemmas.List.Elements.{All-nil, All-cons, All-head, All-tail, All-take, All-drop}
use Rattle.std.proofs.lemmas.List.Splits.{slice_split_none, slice_split_at}
use Rattle.std.proofs.lemmas.Slice.Eq.{slice_eq-Decides, starts_is}
use Rattle.std.proofs.lemmas.Map.Views.{any-filter_same}
use Rattle.bk_text.specs.declared.expiry.Expiry.{Expiry}
use Rattle.bk_text.specs.LevelPaths.{path_of, elements_of}
use Rattle.dump_levels.specs.declared.levels.Level.{Level}
use Rattle.dump_levels.specs.declared.levels.LevelFault.TheVariants.{LevelExists, NoParentLevel, NoSuchLevel}
use Rattle.bk_text.specs.Blanks.{is_same_text}
use Rattle.dump_levels.specs.Elements.{is_within, front_path, path_above}
use Rattle.dump_levels.specs.Trees.{is_level, has_level, has_upper, after_add, expiring, after_set, after_remove}
use Rattle.budb_fold.proofs.Behind.{Behind, behind_push, behind_filter, behind_map, none_filtered}

-- no level before has the path, and one has the path above
pub record IsNextLevel (before : List Level) (level : Level) : Type 0 where
  pub new : has_level before level.path ≡ false
  pub upper : has_upper before (path_above level.path) ≡ true

-- ---- elements, of any text

abbrev HasNoSlash : List ℕ → Type 0
HasNoSlash text = All (λ b. (b == 47) ≡ false) text

onto : (b : ℕ) (parts : List (List ℕ)) → (b == 47) ≡ false → All HasNoSlash parts → All HasNoSlash (onto_first b parts)
onto b [] other all = All-cons HasNoSlash (b ∷ []) [] (All-cons (λ c. (c == 47) ≡ false) b [] other (All-nil (λ c. (c == 47) ≡ false))) (All-nil HasNoSlash)
onto b (part ∷ parts) other all = All-cons HasNoSlash (b ∷ part) parts (All-cons (λ c. (c == 47) ≡ false) b part other (All-head HasNoSlash part parts all)) (All-tail HasNoSlash part parts all)

split_parts : (text : List ℕ) → All HasNoSlash (slice_split (λ b. b == 47) text)
split_parts [] = All-cons HasNoSlash [] [] (All-nil (λ c. (c == 47) ≡ false)) (All-nil HasNoSlash)
split_parts (b ∷ text) = go (b == 47) refl (split_parts text)
  where
    go : (t : Bool) → (b == 47) ≡ t → All HasNoSlash (slice_split (λ x. x == 47) text) → All HasNoSlash (cond t ([] ∷ slice_split (λ x. x == 47) text) (onto_first b (slice_split (λ x. x == 47) text)))
    go true slash rest = All-cons HasNoSlash [] (slice_split (λ x. x == 47) text) (All-nil (λ c. (c == 47) ≡ false)) rest
    go false other rest = onto b (slice_split (λ x. x == 47) text) other rest

-- a path of pieces without slashes has these pieces
split_path : (e : List ℕ) (es : List (List ℕ)) → HasNoSlash e → All HasNoSlash es → slice_split (λ b. b == 47) (e ++ path_of es) ≡ e ∷ es
split_path e [] free all = slice_split_none (λ b. b == 47) (e ++ []) (subst HasNoSlash (sym (append-nil e)) free) ∙ ap (λ (l : List ℕ). l ∷ []) (append-nil e)
split_path e (f ∷ fs) free all =
    slice_split_at (λ b. b == 47) e 47 (f ++ path_of fs) free refl ∙ ap (λ (l : List (List ℕ)). e ∷ l) (split_path f fs (All-head HasNoSlash f fs all) (All-tail HasNoSlash f fs all))

elements_of_path : (es : List (List ℕ)) → All HasNoSlash es → elements_of (path_of es) ≡ es
elements_of_path es all = ap (drop 1) (split_path [] es (All-nil (λ c. (c == 47) ≡ false)) all)

-- ---- what is at a level or below it

same_numbers : (a b : ℕ) → Decides (a == b) (a ≡ b)
same_numbers a b = (eqb-true a b, eq-eqb a b)

same_text : (a b : List ℕ) → is_same_text a b ≡ true → a ≡ b
same_text a b is = (slice_eq-Decides same_numbers a b (is_same_text a b) refl).0 is

within_is : (upper path : List ℕ) → (is_within upper path ≡ true → elements_of path ≡ elements_of upper ++ drop (length (elements_of upper)) (elements_of path)) × ((rest : List (List ℕ)) → elements_of path ≡ elements_of upper ++ rest → is_within upper path ≡ true)
within_is upper path = starts_is (λ a b. slice_eq-Decides same_numbers a b (is_same_text a b) refl) (elements_of path) (elements_of upper) (is_within upper path) refl

-- what is below what is at a level or below it is so too
below : (top path : List ℕ) (n : ℕ) → is_within top (path_of (take n (elements_of path))) ≡ true → is_within top path ≡ true
below top path n is =
    let front : elements_of (path_of (take n (elements_of path))) ≡ take n (elements_of path) = elements_of_path (take n (elements_of path)) (All-take HasNoSlash n (elements_of path) (All-drop HasNoSlash 1 (slice_split (λ b. b == 47) path) (split_parts path))) in
    let begins : take n (elements_of path) ≡ elements_of top ++ drop (length (elements_of top)) (elements_of (path_of (take n (elements_of path)))) = sym front ∙ (within_is top (path_of (take n (elements_of path)))).0 is in
    let joined : elements_of path ≡ elements_of top ++ (drop (length (elements_of top)) (elements_of (path_of (take n (elements_of path)))) ++ drop n (elements_of path)) =
    sym (take-append-drop n (elements_of path)) ∙ ap (λ (l : List (List ℕ)). l ++ drop n (elements_of path)) begins ∙ append_assoc (elements_of top) (drop (length (elements_of top)) (elements_of (path_of (take n (elements_of path))))) (drop n (elements_of path)) in
    (within_is top path).1 (drop (length (elements_of top)) (elements_of (path_of (take n (elements_of path)))) ++ drop n (elements_of path)) joined

upper_stays : (top path : List ℕ) (n : ℕ) (levels : List Level) → is_within top path ≡ false → has_upper levels (front_path n (elements_of path)) ≡ true → has_upper (filter (λ level. not (is_within top level.path)) levels) (front_path n (elements_of path)) ≡ true
upper_stays top path zero levels kept there = refl
upper_stays top path (suc n) levels kept there =
    let upper : List ℕ = path_of (take (suc n) (elements_of path)) in
    let outside : is_within top (path_of (take (suc n) (elements_of path))) ≡ false = go (is_within top (path_of (take (suc n) (elements_of path)))) refl in
    any-filter_same (is_level (path_of (take (suc n) (elements_of path)))) (λ level. not (is_within top level.path)) true
    (λ level is. ap not (ap (is_within top) (same_text level.path (path_of (take (suc n) (elements_of path))) is) ∙ outside)) levels ∙ there
  where
    go : (t : Bool) → is_within top (path_of (take (suc n) (elements_of path))) ≡ t → is_within top (path_of (take (suc n) (elements_of path))) ≡ false
    go true is = absurd (let both : true ≡ false = sym (below top path (suc n) is) ∙ kept in cc)
    go false is = is

not_true : (t : Bool) → not t ≡ true → t ≡ false
not_true true is = absurd (cc)
not_true false is = refl

-- ---- another expiration

same_paths : (path q : List ℕ) (expiry : Expiry) (levels : List Level) → has_level (map (expiring path expiry) levels) q ≡ has_level levels q
same_paths path q expiry [] = refl
same_paths path q expiry (l ∷ levels) = go (is_level path l) (same_paths path q expiry levels)
  where
    go : (t : Bool) → has_level (map (expiring path expiry) levels) q ≡ has_level levels q → (is_level q (if t then record { path = l.path; expiry = expiry } else l) || has_level (map (expiring path expiry) levels) q) ≡ (is_level q l || has_level levels q)
    go true rest = ap (λ (r : Bool). is_level q l || r) rest
    go false rest = ap (λ (r : Bool). is_level q l || r) rest

same_upper : (path : List ℕ) (q : Option (List ℕ)) (expiry : Expiry) (levels : List Level) → has_upper (map (expiring path expiry) levels) q ≡ has_upper levels q
same_upper path None expiry levels = refl
same_upper path (Some q) expiry levels = same_paths path q expiry levels

own_path : (path : List ℕ) (expiry : Expiry) (level : Level) → level.path ≡ (expiring path expiry level).path
own_path path expiry level = go (is_level path level)
  where
    go : (t : Bool) → level.path ≡ (if t then record { path = level.path; expiry = expiry } else level).path
    go true = refl
    go false = refl

next_still : (path : List ℕ) (expiry : Expiry) (before : List Level) (level : Level) → IsNextLevel before level → IsNextLevel (map (expiring path expiry) before) (expiring path expiry level)
next_still path expiry before level is = record {
  new = ap (has_level (map (expiring path expiry) before)) (sym (own_path path expiry level)) ∙ same_paths path level.path expiry before ∙ is.new;
  upper = ap (λ (q : List ℕ). has_upper (map (expiring path expiry) before) (path_above q)) (sym (own_path path expiry level)) ∙ same_upper path (path_above level.path) expiry before ∙ is.upper;
}

-- ---- the calls

module _ (levels new : List Level) (kept : Behind IsNextLevel [] levels) where
  add_upper : (path : List ℕ) (expiry : Expiry) (t : Bool) → has_level levels path ≡ false → has_upper levels (path_above path) ≡ t → (if t then Ok (levels ++ record { path = path; expiry = expiry } ∷ []) else Err NoParentLevel) ≡ Ok new → Behind IsNextLevel [] new
  add_upper path expiry true free there is =
      let same : levels ++ record { path = path; expiry = expiry } ∷ [] ≡ new = cc in
      subst (Behind IsNextLevel []) same (behind_push IsNextLevel [] levels (record { path = path; expiry = expiry }) kept (record { new = free; upper = there }))
  add_upper path expiry false free there is = absurd (cc)

  pub kept_add_level : (path : List ℕ) (expiry : Expiry) → after_add levels path expiry ≡ Ok new → Behind IsNextLevel [] new
  kept_add_level path expiry is = elim (cases_Bool (has_level levels path)) [
    | inl there ↦ absurd (let none : Err LevelExists ≡ Ok new = rw there at is in cc)
    | inr free ↦ add_upper path expiry (has_upper levels (path_above path)) free refl (rw free at is)
  ]

  pub kept_set_level : (path : List ℕ) (expiry : Expiry) → after_set levels path expiry ≡ Ok new → Behind IsNextLevel [] new
  kept_set_level path expiry is = elim (cases_Bool (has_level levels path)) [
    | inl there ↦
        (let whole : Ok (map (expiring path expiry) levels) ≡ Ok new = rw there at is in
        let same : map (expiring path expiry) levels ≡ new = cc in
        subst (Behind IsNextLevel []) same (behind_map IsNextLevel (expiring path expiry) (next_still path expiry) [] levels kept))
    | inr free ↦ absurd (let none : Err NoSuchLevel ≡ Ok new = rw free at is in cc)
  ]

  pub kept_remove_level : (path : List ℕ) → after_remove levels path ≡ Ok new → Behind IsNextLevel [] new
  kept_remove_level path is = elim (cases_Bool (has_level levels path)) [
    | inl there ↦
        (let whole : Ok (filter (λ level. not (is_within path level.path)) levels) ≡ Ok new = rw there at is in
        let same : filter (λ level. not (is_within path level.path)) levels ≡ new = cc in
        subst (Behind IsNextLevel []) same (behind_filter IsNextLevel (λ level. not (is_within path level.path))
        (λ b x next stays. record {
          new = none_filtered (is_level x.path) (λ level. not (is_within path level.path)) b next.new;
          upper = upper_stays path x.path (length (elements_of x.path) - 1) b (not_true (is_within path x.path) stays) next.upper;
        }) [] levels kept))
    | inr free ↦ absurd (let none : Err NoSuchLevel ≡ Ok new = rw free at is in cc)
  ]
