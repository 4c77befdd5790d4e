-- Each element of a list, with those that stand before it.
use Rattle.std.proofs.Common.{zero, suc, ◌≡◌, ℕ, List, [], ◌∷◌, ◌++◌, take, Bool, true, false, cond, refl, sym, ◌∙◌, ap, subst, append_assoc}
use Rattle.std.specs.Prelude.{◌||◌, All, map, filter, slice_get, Some}
use Rattle.std.specs.List.{list_any, IsDistinct}
use Rattle.std.specs.Cmp.{IsEquivalence}
use Rattle.std.proofs.lemmas.Bool.{or_parts, or_from}
use Rattle.std.proofs.lemmas.List.{append-nil, map-append}
use Rattle.std.proofs.lemmas.List.Folds.{list_any-append}
use Rattle.std.proofs.lemmas.List.Elements.{All-nil, All-cons, filter-append}
use Rattle.std.proofs.lemmas.Map.Keys.{IsDistinct-push}

-- each of these, behind those before it
abbrev pub Behind : {X : Type 0} → (List X → X → Type 0) → List X → List X → Type 0
Behind Is before [] = Unit {0}
Behind Is before (x ∷ xs) = Is before x × Behind Is (before ++ x ∷ []) xs

module _ {X : Type 0} (Is : List X → X → Type 0) where
  pub behind_push : (before xs : List X) (x : X) → Behind Is before xs → Is (before ++ xs) x → Behind Is before (xs ++ x ∷ [])
  behind_push before [] x all is = (subst (λ (l : List X). Is l x) (append-nil before) is, tt)
  behind_push before (y ∷ ys) x all is =
      (all.0, behind_push (before ++ y ∷ []) ys x all.1 (subst (λ (l : List X). Is l x) (sym (append_assoc before (y ∷ []) ys)) is))

  -- behind others, behind which the same is so
  pub behind_less : (before less xs : List X) → ((c : List X) (x : X) → Is (before ++ c) x → Is (less ++ c) x) → Behind Is before xs → Behind Is less xs
  behind_less before less [] weak all = tt
  behind_less before less (y ∷ ys) weak all = (
    subst (λ (l : List X). Is l y) (append-nil less) (weak [] y (subst (λ (l : List X). Is l y) (sym (append-nil before)) all.0)),
    behind_less (before ++ y ∷ []) (less ++ y ∷ []) ys (λ c x is. subst (λ (l : List X). Is l x) (sym (append_assoc less (y ∷ []) c)) (weak (y ∷ c) x (subst (λ (l : List X). Is l x) (append_assoc before (y ∷ []) c) is))) all.1,
  )

  pub behind_filter : (p : X → Bool) → ((b : List X) (x : X) → Is b x → p x ≡ true → Is (filter p b) x) → (before xs : List X) → Behind Is before xs → Behind Is (filter p before) (filter p xs)
  behind_filter p keep before [] all = tt
  behind_filter p keep before (y ∷ ys) all =
      let rest : Behind Is (filter p before ++ filter p (y ∷ [])) (filter p ys) = subst (λ (l : List X). Behind Is l (filter p ys)) (filter-append p before (y ∷ [])) (behind_filter p keep (before ++ y ∷ []) ys all.1) in
      go (p y) refl rest
    where
      go : (t : Bool) → p y ≡ t → Behind Is (filter p before ++ cond t (y ∷ []) []) (filter p ys) → Behind Is (filter p before) (cond t (y ∷ filter p ys) (filter p ys))
      go true hit rest = (keep before y all.0 hit, rest)
      go false miss rest = subst (λ (l : List X). Behind Is l (filter p ys)) (append-nil (filter p before)) rest

  pub behind_map : (f : X → X) → ((b : List X) (x : X) → Is b x → Is (map f b) (f x)) → (before xs : List X) → Behind Is before xs → Behind Is (map f before) (map f xs)
  behind_map f keep before [] all = tt
  behind_map f keep before (y ∷ ys) all = (keep before y all.0, subst (λ (l : List X). Behind Is l (map f ys)) (map-append f before (y ∷ [])) (behind_map f keep (before ++ y ∷ []) ys all.1))

  -- another thing that is so of each
  pub behind_weaker : (Other : List X → X → Type 0) → ((b : List X) (x : X) → Is b x → Other b x) → (before xs : List X) → Behind Is before xs → Behind Other before xs
  behind_weaker Other so before [] all = tt
  behind_weaker Other so before (y ∷ ys) all = (so before y all.0, behind_weaker Other so (before ++ y ∷ []) ys all.1)

  -- what is so of each one
  pub each_behind : (P : X → Type 0) → ((b : List X) (x : X) → Is b x → P x) → (before xs : List X) → Behind Is before xs → All P xs
  each_behind P so before [] all = All-nil P
  each_behind P so before (y ∷ ys) all = All-cons P y ys (so before y all.0) (each_behind P so (before ++ y ∷ []) ys all.1)

  -- the one at a place
  pub at_place : (before xs : List X) (k : ℕ) (x : X) → Behind Is before xs → slice_get xs k ≡ Some x → Is (before ++ take k xs) x
  at_place before [] k x all at = absurd (cc)
  at_place before (y ∷ ys) zero x all at =
      (let same : y ≡ x = cc in
      subst (λ (z : X). Is (before ++ []) z) same (subst (λ (l : List X). Is l y) (sym (append-nil before)) all.0))
  at_place before (y ∷ ys) (suc k) x all at = subst (λ (l : List X). Is l x) (append_assoc before (y ∷ []) (take k ys)) (at_place (before ++ y ∷ []) ys k x all.1 at)

-- keys that no earlier element has are distinct
pub distinct_behind : {X K : Type 0} (key : X → K) (eq : K → K → Bool) → IsEquivalence eq → (before xs : List X) → IsDistinct eq (map key before) → Behind (λ (b : List X) (x : X). list_any (eq (key x)) (map key b) ≡ false) before xs → IsDistinct eq (map key (before ++ xs))
distinct_behind {X} {K} key eq laws before [] so_far all = subst (λ (l : List X). IsDistinct eq (map key l)) (sym (append-nil before)) so_far
distinct_behind {X} {K} key eq laws before (y ∷ ys) so_far all =
    let here : IsDistinct eq (map key (before ++ y ∷ [])) = subst (IsDistinct eq) (sym (map-append key before (y ∷ []))) (IsDistinct-push laws (map key before) (key y) so_far all.0) in
    subst (λ (l : List X). IsDistinct eq (map key l)) (append_assoc before (y ∷ []) ys) (distinct_behind key eq laws (before ++ y ∷ []) ys here all.1)

-- none of more is none of some
pub none_left : {X : Type 0} (q : X → Bool) (b c : List X) (y : X) → list_any q ((b ++ y ∷ []) ++ c) ≡ false → list_any q (b ++ c) ≡ false
none_left q b c y none =
    let all = or_parts (list_any q (b ++ y ∷ [])) (list_any q c) (sym (list_any-append q (b ++ y ∷ []) c) ∙ none) in
    let front = or_parts (list_any q b) (list_any q (y ∷ [])) (sym (list_any-append q b (y ∷ [])) ∙ all.0) in
    list_any-append q b c ∙ or_from (list_any q b) (list_any q c) front.0 all.1

pub none_filtered : {X : Type 0} (q p : X → Bool) (xs : List X) → list_any q xs ≡ false → list_any q (filter p xs) ≡ false
none_filtered q p [] none = refl
none_filtered q p (x ∷ xs) none =
    let parts = or_parts (q x) (list_any q xs) none in
    go (p x) parts.0 (none_filtered q p xs parts.1)
  where
    go : (t : Bool) → q x ≡ false → list_any q (filter p xs) ≡ false → list_any q (cond t (x ∷ filter p xs) (filter p xs)) ≡ false
    go true here rest = or_from (q x) (list_any q (filter p xs)) here rest
    go false here rest = rest

-- no element has the key where the key is none of theirs
pub none_of_key : {X K : Type 0} (key : X → K) (eq : K → K → Bool) → IsEquivalence eq → (k : K) (b : List X) → list_any (λ x. eq (key x) k) b ≡ list_any (eq k) (map key b)
none_of_key key eq laws k [] = refl
none_of_key {X} {K} key eq laws k (x ∷ b) = ap (λ (t : Bool). t || list_any (λ y. eq (key y) k) b) (laws.symm (key x) k) ∙ ap (λ (t : Bool). eq k (key x) || t) (none_of_key key eq laws k b)
