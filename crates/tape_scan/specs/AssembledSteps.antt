-- Over what scans tell of parts: which part goes on a dump on the next tape, and which parts lead to the dump's end.
use Rattle.std.specs.Prelude.{◌≡◌, ◌⊎◌, ◌↔◌, ℕ, ◌+◌, ◌<◌, ◌≤◌, Bool, true, false, IsSome, IfSome, Option, Some, None, List, [], ◌∷◌, map, length, slice_index_or, Contains}
use Rattle.std.specs.Borrow.{Bor}
use Rattle.tape_text.specs.Texts.{NextVolume}
use Rattle.tape_text.specs.Wholes.{Agree, next_head}
use Rattle.tape_scan.specs.declared.sections.FragFound.{FragFound}
use Rattle.tape_scan.specs.declared.sections.PartFound.{PartFound}

-- over two tapes a told fragment goes on: where it doesn't end its volume, with the same volume's next one, else with the next volume
abbrev pub ToldGoesOn : FragFound → FragFound → Type 0
ToldGoesOn f g = ((f.last ≡ Some false) × (g.head ≡ next_head f.head)) ⊎ ((f.last ≡ Some true) × NextVolume f.head g.head)

-- the first of these fragments is so; there is one
abbrev pub BeginsSo : (FragFound → Type 0) → List FragFound → Type 0
BeginsSo Is [] = ⊥
BeginsSo Is (f ∷ fs) = Is f

-- the last one is so
abbrev pub EndsSo : (FragFound → Type 0) → List FragFound → Type 0
EndsSo Is [] = ⊥
EndsSo Is (f ∷ []) = Is f
EndsSo Is (f ∷ g ∷ fs) = EndsSo Is (g ∷ fs)

-- the fragments of one part go on in those of the next one
abbrev pub AreGoneOn : List FragFound → List FragFound → Type 0
AreGoneOn fs gs = EndsSo (λ f. BeginsSo (λ g. ToldGoesOn f g) gs) fs

-- a closed part, and its dump's next one on the next tape
pub record ToldNext (p q : PartFound) : Type 0 where
  pub closed : IsSome p.end
  pub next_closed : IsSome q.end
  pub more : p.more ≡ true
  pub agree : Agree p.head q.head
  pub part : q.head.part ≡ p.head.part + 1
  pub tape : q.head.tape ≡ p.head.tape + 1
  pub goes_on : AreGoneOn p.frags q.frags

-- a closed part that ends its dump
abbrev pub IsEnding : PartFound → Type 0
IsEnding p = IsSome p.end × (p.more ≡ false)

-- behind a part come these, each one the next of the one before it, and the last one ends the dump
abbrev pub Leads : List PartFound → PartFound → List PartFound → Type 0
Leads all p [] = IsEnding p
Leads all p (q ∷ qs) = Contains all q × ToldNext p q × Leads all q qs

-- a part from which parts of the list lead to the end of its dump
abbrev pub Completes : List PartFound → PartFound → Type 0
Completes all p = (path : List PartFound) × Leads all p path

-- this one is at this place of the list
abbrev pub Stands : {X : Type 0} → List X → ℕ → X → Type 0
Stands xs k x = (k < length xs) × (slice_index_or xs k x ≡ x)

-- the one at this place has a flag
abbrev pub IsFlagged : List Bool → ℕ → Type 0
IsFlagged good k = slice_index_or good k false ≡ true

-- a part's flag says whether it completes
abbrev pub IsKnown : List PartFound → List Bool → ℕ → PartFound → Type 0
IsKnown all good k p = IsFlagged good k ↔ Completes all p

-- that is so of each part whose number is this or above
abbrev pub AreKnownFrom : List PartFound → List Bool → ℕ → Type 0
AreKnownFrom all good least = (k : ℕ) (p : PartFound) → Stands all k p → least ≤ p.head.part → IsKnown all good k p

-- and of each part
abbrev pub AreKnown : List PartFound → List Bool → Type 0
AreKnown all good = (k : ℕ) (p : PartFound) → Stands all k p → IsKnown all good k p

-- no flagged part is the next of this one
abbrev pub HasNoNext : List PartFound → List Bool → PartFound → Type 0
HasNoNext all good p = (k : ℕ) (r : PartFound) → Stands all k r → IsFlagged good k → ToldNext p r → ⊥

-- the first flagged part that is the next of this one
pub record IsFirstNext (all : List PartFound) (good : List Bool) (p : PartFound) (at : ℕ) (q : PartFound) : Type 0 where
  pub stands : Stands all at q
  pub flagged : IsFlagged good at
  pub next : ToldNext p q
  pub first : (k : ℕ) (r : PartFound) → k < at → Stands all k r → IsFlagged good k → ToldNext p r → ⊥

-- what lent parts are
abbrev pub seen : List (Bor PartFound) → List PartFound
seen parts = map (λ r. r.now) parts

-- ---- numbers of parts

-- a number is below a bound, if there is one
abbrev pub IsBelow : ℕ → Option ℕ → Type 0
IsBelow n None = Unit {0}
IsBelow n (Some bound) = n < bound

-- a number is above the greatest so far, if there is one
abbrev pub IsAbove : ℕ → Option ℕ → Type 0
IsAbove n None = Unit {0}
IsAbove n (Some greatest) = greatest < n

-- and it is not
abbrev pub IsUpTo : ℕ → Option ℕ → Type 0
IsUpTo n None = ⊥
IsUpTo n (Some greatest) = n ≤ greatest

-- the greatest number below a bound that one of so many parts has
pub record IsGreatestBelow (all : List PartFound) (bound : Option ℕ) (count : ℕ) (greatest : Option ℕ) : Type 0 where
  pub each : (k : ℕ) (p : PartFound) → k < count → Stands all k p → IsBelow p.head.part bound → IsUpTo p.head.part greatest
  pub below : IfSome greatest (λ n. IsBelow n bound)

-- where this is the greatest number whose parts aren't known yet, those above it are
abbrev pub AreKnownAbove : List PartFound → List Bool → Option ℕ → Type 0
AreKnownAbove all good None = AreKnown all good
AreKnownAbove all good (Some n) = AreKnownFrom all good (n + 1)
