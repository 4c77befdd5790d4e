-- Lists in the order of their keys, each key once.
use Rattle.std.specs.Prelude.{◌≡◌, List, ◌∷◌, ◌++◌, not, filter, find, Option, AllPairs}
use Rattle.std.specs.declared.cmp.Ordering.{Ordering}
use Rattle.std.specs.declared.cmp.Ordering.TheVariants.{Less}
use Rattle.std.specs.Ordering.{is_lt, is_eq, is_gt}

module _ {A K : Type 0} (order : K → K → Ordering) (key : A → K) where
  -- the keys ascend
  abbrev pub AreAscending : List A → Type 0
  AreAscending all = AllPairs (λ a b. order (key a) (key b) ≡ Less) all

  -- the one that has this key
  abbrev pub of_key : K → List A → Option A
  of_key k all = find (λ a. is_eq (order (key a) k)) all

  -- those before a key, and those behind it
  abbrev pub before_key : K → List A → List A
  before_key k all = filter (λ a. is_lt (order (key a) k)) all

  abbrev pub behind_key : K → List A → List A
  behind_key k all = filter (λ a. is_gt (order (key a) k)) all

  -- one more, in its place by its key; it stands for the one that has its key, where there is one
  abbrev pub placed : A → List A → List A
  placed a all = before_key (key a) all ++ a ∷ behind_key (key a) all

  -- all but the one that has this key
  abbrev pub without_key : K → List A → List A
  without_key k all = filter (λ a. not (is_eq (order (key a) k))) all
