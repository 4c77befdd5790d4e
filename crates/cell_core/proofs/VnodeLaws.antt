-- Vnodes in order, and within the limits.
use Rattle.std.proofs.Common.{zero, suc, ◌≡◌, ℕ, ◌%◌, ◌<◌, ◌≤◌, Bool, true, false, cond, List, [], ◌∷◌, length, map, get_or, refl, sym, ap, subst, inl, inr, arith}
use Rattle.std.specs.Prelude.{not, filter, All, AllPairs, sum_by}
use Rattle.std.specs.Ordering.{is_eq}
use Rattle.std.proofs.lemmas.List.Elements.{All-nil, All-cons, All-head, All-tail}
use Rattle.std.proofs.lemmas.List.Sums.{sum_by-cons}
use Rattle.std.specs.declared.cmp.Ordering.TheVariants.{Less, Equal}
use Rattle.std.specs.Cmp.{IsTotalOrder}
use Rattle.std.proofs.lemmas.Cmp.{nat_cmp_total, on_total, then_total, back_total, tied_itself}
use Rattle.std.proofs.lemmas.List.{length-map}
use Rattle.std.proofs.lemmas.Bool.Decides.{nat_tests}
use Rattle.vnode_model.specs.declared.increments.Entry.TheVariants.{Whole}
use Rattle.vnode_model.specs.declared.vnodes.Vnode.{Vnode}
use Rattle.vnode_model.specs.Limits.{StandsBefore, IsFitVnode, IsFit, AreVolume, number_of, data_len, most_vnodes, most_data, all_data}
use Rattle.vnode_model.specs.Increments.{data_of}
use Rattle.cell_core.specs.Orders.{AreAscending}
use Rattle.cell_core.specs.Vnodes.{number_order, number_of_vnode, with_vnode, without_vnode}
use Rattle.cell_core.proofs.OrderLaws.{placed_ascending, placed_all, without_ascending, without_all}

pub number_order_total : IsTotalOrder number_order
number_order_total = then_total (back_total (on_total (λ (n : ℕ). n % 2) nat_cmp_total)) nat_cmp_total

pub stands_is : (m n : ℕ) → StandsBefore m n → number_order m n ≡ Less
stands_is m n (inl h) = grind (arith, nat_tests)
stands_is m n (inr h) = grind (arith, nat_tests)

pub is_stands : (m n : ℕ) → number_order m n ≡ Less → StandsBefore m n
is_stands m n h = grind (arith, nat_tests)

pub equal_same : (m n : ℕ) → number_order m n ≡ Equal → m ≡ n
equal_same m n h = grind (arith, nat_tests)

pub same_equal : (m n : ℕ) → m ≡ n → number_order m n ≡ Equal
same_equal m n is = subst (λ (k : ℕ). number_order m k ≡ Equal) is (tied_itself number_order_total m)

-- the numbers of vnodes, one by one
number_at : (vs : List Vnode) (i d : ℕ) (v : Vnode) → i < length vs → get_or (map number_of (map Whole vs)) i d ≡ (get_or vs i v).number
number_at [] i d v lt = absurd (omega arith)
number_at (w ∷ vs) zero d v lt = refl
number_at (w ∷ vs) (suc i) d v lt = number_at vs i d v (omega arith)

long : (vs : List Vnode) → length (map number_of (map Whole vs)) ≡ length vs
long [] = refl
long (v ∷ vs) = ap suc (long vs)

pub are_ascending : (vs : List Vnode) → AllPairs StandsBefore (map number_of (map Whole vs)) → AreAscending number_order number_of_vnode vs
are_ascending vs h i j v lt within =
    let low = number_at vs i 0 v (omega arith) in
    let high = number_at vs j 0 v within in
    stands_is (get_or vs i v).number (get_or vs j v).number
    (subst (λ (m : ℕ). StandsBefore m (get_or vs j v).number) low
    (subst (λ (n : ℕ). StandsBefore (get_or (map number_of (map Whole vs)) i 0) n) high (h i j 0 lt (omega (arith, long vs)))))

pub are_ordered : (vs : List Vnode) → AreAscending number_order number_of_vnode vs → AllPairs StandsBefore (map number_of (map Whole vs))
are_ordered [] h i j d lt within = absurd (omega arith)
are_ordered (v ∷ vs) h i j d lt within =
    let inside : j < length (v ∷ vs) = omega (arith, long (v ∷ vs)) in
    let low = number_at (v ∷ vs) i d v (omega arith) in
    let high = number_at (v ∷ vs) j d v inside in
    subst (λ (m : ℕ). StandsBefore m (get_or (map number_of (map Whole (v ∷ vs))) j d)) (sym low)
    (subst (λ (n : ℕ). StandsBefore (get_or (v ∷ vs) i v).number n) (sym high) (is_stands (get_or (v ∷ vs) i v).number (get_or (v ∷ vs) j v).number (h i j v lt inside)))

-- ---- what a volume's vnodes keep, of the vnodes themselves

pub record AreKept (vs : List Vnode) : Type 0 where
  pub few : length vs ≤ most_vnodes
  pub numbered : All (λ v. 1 ≤ v.number) vs
  pub ascending : AreAscending number_order number_of_vnode vs
  pub each : All IsFitVnode vs
  pub small : data_of vs ≤ all_data

data_same : (vs : List Vnode) → sum_by data_len (map Whole vs) ≡ data_of vs
data_same [] = refl
data_same (v ∷ vs) = omega (arith, data_same vs, sum_by-cons data_len (Whole v) (map Whole vs), sum_by-cons (λ (w : Vnode). length w.body) v vs)

numbers_out : (vs : List Vnode) → All (λ v. 1 ≤ v.number) vs → All (λ n. 1 ≤ n) (map number_of (map Whole vs))
numbers_out [] h = All-nil (λ (n : ℕ). 1 ≤ n)
numbers_out (v ∷ vs) h =
    All-cons (λ (n : ℕ). 1 ≤ n) v.number (map number_of (map Whole vs)) (All-head (λ (w : Vnode). 1 ≤ w.number) v vs h) (numbers_out vs (All-tail (λ (w : Vnode). 1 ≤ w.number) v vs h))

numbers_in : (vs : List Vnode) → All (λ n. 1 ≤ n) (map number_of (map Whole vs)) → All (λ v. 1 ≤ v.number) vs
numbers_in [] h = All-nil (λ (w : Vnode). 1 ≤ w.number)
numbers_in (v ∷ vs) h =
    All-cons (λ (w : Vnode). 1 ≤ w.number) v vs (All-head (λ (n : ℕ). 1 ≤ n) v.number (map number_of (map Whole vs)) h) (numbers_in vs (All-tail (λ (n : ℕ). 1 ≤ n) v.number (map number_of (map Whole vs)) h))

each_out : (vs : List Vnode) → All IsFitVnode vs → All IsFit (map Whole vs)
each_out [] h = All-nil IsFit
each_out (v ∷ vs) h = All-cons IsFit (Whole v) (map Whole vs) (All-head IsFitVnode v vs h) (each_out vs (All-tail IsFitVnode v vs h))

each_in : (vs : List Vnode) → All IsFit (map Whole vs) → All IsFitVnode vs
each_in [] h = All-nil IsFitVnode
each_in (v ∷ vs) h = All-cons IsFitVnode v vs (All-head IsFit (Whole v) (map Whole vs) h) (each_in vs (All-tail IsFit (Whole v) (map Whole vs) h))

pub kept_in : (vs : List Vnode) → AreVolume vs → AreKept vs
kept_in vs fit = record {
  few = omega (arith, fit.few, length-map vs Whole);
  numbered = numbers_in vs fit.numbered;
  ascending = are_ascending vs fit.ordered;
  each = each_in vs fit.each;
  small = omega (arith, fit.small, data_same vs);
}

pub kept_out : (vs : List Vnode) → AreKept vs → AreVolume vs
kept_out vs kept = record {
  few = omega (arith, kept.few, length-map vs Whole);
  numbered = numbers_out vs kept.numbered;
  ordered = are_ordered vs kept.ascending;
  each = each_out vs kept.each;
  small = omega (arith, kept.small, data_same vs);
}

-- one more vnode, within the limits
pub volume_with : (v : Vnode) (vs : List Vnode) → AreVolume vs → IsFitVnode v → 1 ≤ v.number → length (with_vnode v vs) ≤ most_vnodes → data_of (with_vnode v vs) ≤ all_data → AreVolume (with_vnode v vs)
volume_with v vs fit here numbered few small =
    let kept = kept_in vs fit in
    kept_out (with_vnode v vs) (record {
      few = few;
      numbered = placed_all number_order number_of_vnode number_order_total (λ (w : Vnode). 1 ≤ w.number) v vs numbered kept.numbered;
      ascending = placed_ascending number_order number_of_vnode number_order_total v vs kept.ascending;
      each = placed_all number_order number_of_vnode number_order_total IsFitVnode v vs here kept.each;
      small = small;
    })

filter_less : (p : Vnode → Bool) (vs : List Vnode) → (length (filter p vs) ≤ length vs) × (data_of (filter p vs) ≤ data_of vs)
filter_less p [] = (omega arith, omega arith)
filter_less p (v ∷ vs) =
    let rest = filter_less p vs in
    elim (p v) as (λ b. (length (cond b (v ∷ filter p vs) (filter p vs)) ≤ length (v ∷ vs)) × (data_of (cond b (v ∷ filter p vs) (filter p vs)) ≤ data_of (v ∷ vs))) [
      | true ↦ (omega (arith, rest.0), omega (arith, rest.1, sum_by-cons (λ (w : Vnode). length w.body) v vs, sum_by-cons (λ (w : Vnode). length w.body) v (filter p vs)))
      | false ↦ (omega (arith, rest.0), omega (arith, rest.1, sum_by-cons (λ (w : Vnode). length w.body) v vs))
    ]

pub volume_less : (number : ℕ) (vs : List Vnode) → AreVolume vs → AreVolume (without_vnode number vs)
volume_less number vs fit =
    let kept = kept_in vs fit in
    let less = filter_less (λ (w : Vnode). not (is_eq (number_order w.number number))) vs in
    kept_out (without_vnode number vs) (record {
      few = omega (arith, kept.few, less.0);
      numbered = without_all number_order number_of_vnode number_order_total (λ (w : Vnode). 1 ≤ w.number) number vs kept.numbered;
      ascending = without_ascending number_order number_of_vnode number_order_total number vs kept.ascending;
      each = without_all number_order number_of_vnode number_order_total IsFitVnode number vs kept.each;
      small = omega (arith, kept.small, less.1);
    })

pub short_body : (vs : List Vnode) (i : ℕ) (d : Vnode) → AreVolume vs → i < length vs → length (get_or vs i d).body ≤ most_data
short_body vs i d fit lt = ((kept_in vs fit).each i d lt).body
