-- Where a key stands in an ordered list.
use Rattle.std.specs.Prelude.{◌≡◌, suc, ℕ, ◌<◌, ◌≤◌, List, ◌++◌, length, take, drop, slice_index_or, Some, None}
use Rattle.std.specs.declared.cmp.Ordering.{Ordering}
use Rattle.std.specs.declared.cmp.Ordering.TheVariants.{Equal}
use Rattle.cell_core.specs.Orders.{of_key, before_key, behind_key, without_key}

module _ {A K : Type 0} (order : K → K → Ordering) (key : A → K) where
  -- one that has this key stands at this place
  pub record FoundAt (k : K) (all : List A) (i : ℕ) : Type 0 where
    pub within : i < length all
    pub before : before_key order key k all ≡ take i all
    pub behind : behind_key order key k all ≡ drop (suc i) all
    pub others : without_key order key k all ≡ take i all ++ drop (suc i) all
    pub key_is : (d : A) → order (key (slice_index_or all i d)) k ≡ Equal
    pub there : (d : A) → of_key order key k all ≡ Some (slice_index_or all i d)

  -- none has this key, and it would stand at this place
  pub record FreeAt (k : K) (all : List A) (i : ℕ) : Type 0 where
    pub within : i ≤ length all
    pub before : before_key order key k all ≡ take i all
    pub behind : behind_key order key k all ≡ drop i all
    pub others : without_key order key k all ≡ all
    pub none : of_key order key k all ≡ None
