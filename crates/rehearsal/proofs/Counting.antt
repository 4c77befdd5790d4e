-- Counts over lists, one element after the other.
use Rattle.std.proofs.Common.{◌≡◌, ℕ, zero, suc, ◌+◌, ◌*◌, ◌≤◌, Bool, true, false, List, [], ◌∷◌, ◌++◌, length, map, take, refl, sym, ◌∙◌, ap, arith, length-append, append_assoc}
use Rattle.std.specs.Prelude.{Option, Some, None, IfSome, if◌then◌else◌, cond, slice_get}
use Rattle.std.specs.List.{filter, flat_map, sum_by, count_by, range_with_len}
use Rattle.std.proofs.lemmas.List.{append-nil, map-append, flat_map_more}
use Rattle.std.proofs.lemmas.List.Elements.{filter-append}
use Rattle.std.proofs.lemmas.List.Sums.{sum_by-append, sum_by-cons, count_by_more_yes, count_by_more_no}
use Rattle.std.proofs.lemmas.Option.{slice_get_within, get_or_from_slice_get}
use Rattle.vnode_model.specs.declared.vnodes.Vnode.{Vnode}
use Rattle.vnode_model.specs.declared.increments.Entry.TheVariants.{Whole}
use Rattle.vnode_model.specs.Limits.{AreVolume, data_len}
use Rattle.cell_core.specs.declared.stored.Stored.{Stored}
use Rattle.rehearsal.specs.declared.copies.Copies.{Copies}
use Rattle.rehearsal.specs.Names.{volumes, copy_name}
use Rattle.rehearsal.specs.Copies.{bytes_in, data_of, volume_under, is_restored_equal, equal_copies, data_at, with_data, counted}

-- the data of a volume are within the limit
sum_same : (xs : List Vnode) → sum_by data_len (map Whole xs) ≡ bytes_in xs
sum_same [] = refl
sum_same (x ∷ xs) =
    sum_by-cons data_len (Whole x) (map Whole xs) ∙ ap (λ (n : ℕ). length x.body + n) (sum_same xs) ∙ sym (sum_by-cons (λ (v : Vnode). length v.body) x xs)

pub volume_bytes : (vnodes : List Vnode) → AreVolume vnodes → bytes_in vnodes ≤ 268435456
volume_bytes vnodes is = omega (arith, is.small, sum_same vnodes)

-- one number more
range_next : (a n : ℕ) → range_with_len a (suc n) ≡ range_with_len a n ++ (a + n) ∷ []
range_next a zero = ap (λ (x : ℕ). x ∷ []) (let e : a ≡ a + 0 = omega arith in e)
range_next a (suc n) = ap (λ (l : List ℕ). a ∷ l) (range_next (a + 1) n ∙ ap (λ (x : ℕ). range_with_len (a + 1) n ++ x ∷ []) (let e : a + 1 + n ≡ a + suc n = omega arith in e))

pub range_more : (a n : ℕ) → range_with_len a (n + 1) ≡ range_with_len a n ++ (a + n) ∷ []
range_more a n = ap (range_with_len a) (let e : n + 1 ≡ suc n = omega arith in e) ∙ range_next a n

-- the numbers to one more
volumes_more : (n j : ℕ) → n + 1 ≡ j → volumes j ≡ volumes n ++ j ∷ []
volumes_more n j is = ap volumes (sym is) ∙ range_more 1 n ∙ ap (λ (x : ℕ). volumes n ++ x ∷ []) (let e : 1 + n ≡ j = omega (arith, is) in e)

-- ---- copies

module _ (cell : List Stored) where
  abbrev bytes_at : ℕ → ℕ
  bytes_at k = data_of (volume_under (copy_name k) cell)

  one_more : (fs : List ℕ) (j : ℕ) (b : Bool) → with_data (record { equal = length fs; bytes = sum_by bytes_at fs }) (if b then Some (bytes_at j) else None)
      ≡ record { equal = length (fs ++ (if b then j ∷ [] else [])); bytes = sum_by bytes_at (fs ++ (if b then j ∷ [] else [])) }
  one_more fs j true =
      let count : length fs + 1 ≡ length (fs ++ j ∷ []) = sym (length-append fs (j ∷ [])) in
      let zero_more : bytes_at j + 0 ≡ bytes_at j = omega arith in
      let alone : sum_by bytes_at (j ∷ []) ≡ bytes_at j = sum_by-cons bytes_at j [] ∙ zero_more in
      let bytes : sum_by bytes_at fs + bytes_at j ≡ sum_by bytes_at (fs ++ j ∷ []) = sym (sum_by-append bytes_at fs (j ∷ []) ∙ ap (λ (n : ℕ). sum_by bytes_at fs + n) alone) in
      λ i. record { equal = count i; bytes = bytes i }
  one_more fs j false = ap (λ (l : List ℕ). record { equal = length l; bytes = sum_by bytes_at l }) (sym (append-nil fs))

  pub counted_more : (n j : ℕ) → n + 1 ≡ j → with_data (counted cell n) (data_at cell j) ≡ counted cell j
  counted_more n j is =
      let whole : equal_copies cell j ≡ equal_copies cell n ++ (if is_restored_equal cell j then j ∷ [] else [])
      = ap (filter (is_restored_equal cell)) (volumes_more n j is) ∙ filter-append (is_restored_equal cell) (volumes n) (j ∷ []) in
      one_more (equal_copies cell n) j (is_restored_equal cell j) ∙ ap (λ (fs : List ℕ). record { equal = length fs; bytes = sum_by bytes_at fs }) (sym whole)

pub with_few : (c : Copies) (found : Option ℕ) (v : ℕ) → c.equal + 1 ≤ v → (with_data c found).equal + 1 ≤ v + 1
with_few c None v few = omega (arith, few)
with_few c (Some bytes) v few = omega (arith, few)

pub with_small : (c : Copies) (found : Option ℕ) (v : ℕ) → IfSome found (λ bytes. bytes ≤ 268435456) → c.bytes + 268435456 ≤ v * 268435456 → (with_data c found).bytes + 268435456 ≤ (v + 1) * 268435456
with_small c None v few small = omega (arith, small)
with_small c (Some bytes) v few small = omega (arith, few, small)

-- ---- records

module _ {X : Type 0} (p : X → Bool) where
  by_case : (xs : List X) (i : ℕ) (x : X) (b : Bool) → slice_get xs i ≡ Some x → p x ≡ b → count_by p (take (i + 1) xs) ≡ count_by p (take i xs) + cond b 1 0
  by_case xs i x true at is = count_by_more_yes p xs i x (slice_get_within xs i x at) (ap p (get_or_from_slice_get xs i x x at) ∙ is)
  by_case xs i x false at is = count_by_more_no p xs i x (slice_get_within xs i x at) (ap p (get_or_from_slice_get xs i x x at) ∙ is) ∙ omega arith

  pub count_more : (xs : List X) (i : ℕ) (x : X) → slice_get xs i ≡ Some x → count_by p (take (i + 1) xs) ≡ count_by p (take i xs) + cond (p x) 1 0
  count_more xs i x at = by_case xs i x (p x) at refl

-- ---- commands

module _ {X : Type 0} where
  pub flat_more : (f : ℕ → List X) (front : List X) (n j : ℕ) (a b : X) → n + 1 ≡ j → f j ≡ a ∷ (b ∷ []) → ((front ++ flat_map f (volumes n)) ++ a ∷ []) ++ b ∷ [] ≡ front ++ flat_map f (volumes j)
  flat_more f front n j a b is both =
      append_assoc (front ++ flat_map f (volumes n)) (a ∷ []) (b ∷ []) ∙ ap (λ (l : List X). (front ++ flat_map f (volumes n)) ++ l) (sym both) ∙ flat_map_more f front (volumes n) j
      ∙ ap (λ (l : List ℕ). front ++ flat_map f l) (sym (volumes_more n j is))

  pub mapped_more : (f : ℕ → X) (front : List X) (first : X) (n j : ℕ) → n + 1 ≡ j → (front ++ first ∷ map f (volumes n)) ++ f j ∷ [] ≡ front ++ first ∷ map f (volumes j)
  mapped_more f front first n j is =
      append_assoc front (first ∷ map f (volumes n)) (f j ∷ []) ∙ ap (λ (l : List X). front ++ first ∷ l)
      (sym (map-append f (volumes n) (j ∷ [])) ∙ ap (map f) (sym (volumes_more n j is)))

  one_kept : (f : ℕ → X) (xs : List ℕ) (j : ℕ) (b : Bool) → map f xs ++ (if b then f j ∷ [] else []) ≡ map f (xs ++ (if b then j ∷ [] else []))
  one_kept f xs j true = sym (map-append f xs (j ∷ []))
  one_kept f xs j false = append-nil (map f xs) ∙ ap (map f) (sym (append-nil xs))

  pub kept_more : (f : ℕ → X) (p : ℕ → Bool) (n j : ℕ) → n + 1 ≡ j → map f (filter p (volumes n)) ++ (if p j then f j ∷ [] else []) ≡ map f (filter p (volumes j))
  kept_more f p n j is =
      one_kept f (filter p (volumes n)) j (p j)
      ∙ ap (map f) (sym (filter-append p (volumes n) (j ∷ [])) ∙ ap (filter p) (sym (volumes_more n j is)))
