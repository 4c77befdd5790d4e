-- Over what scans tell of parts: the first way from a part to the end of its dump, and of each dump the first way of all.
use Rattle.std.specs.Prelude.{◌≡◌, ℕ, ◌<◌, ◌≤◌, Bool, Option, Some, None, List, [], ◌∷◌, All, AllPairs, Contains}
use Rattle.tape_scan.specs.declared.sections.PartFound.{PartFound}
use Rattle.tape_scan.specs.declared.assembling_chains.Chain.{Chain}
use Rattle.tape_scan.specs.AssembledSteps.{Stands, IsFlagged, HasNoNext, IsFirstNext}

-- From a part these places are walked to a last one, each part the first next of the one before it.
abbrev pub Walks : List PartFound → List Bool → ℕ → PartFound → List ℕ → ℕ → PartFound → Type 0
Walks all good at p [] last end = (at ≡ last) × (p ≡ end)
Walks all good at p (j ∷ js) last end = (q : PartFound) × IsFirstNext all good p j q × Walks all good j q js last end

-- places that are walked so far, from a first one to a last one
pub record IsWalkTo (all : List PartFound) (good : List Bool) (begin : ℕ) (places : List ℕ) (last : ℕ) : Type 0 where
  pub first : PartFound
  pub stands : Stands all begin first
  pub rest : List ℕ
  pub is : places ≡ begin ∷ rest
  pub end : PartFound
  pub end_stands : Stands all last end
  pub walks : Walks all good begin first rest last end

-- and all the way: from the last one none goes on
pub record IsWalk (all : List PartFound) (good : List Bool) (begin : ℕ) (places : List ℕ) : Type 0 where
  pub last : ℕ
  pub walk : IsWalkTo all good begin places last
  pub no_next : HasNoNext all good walk.end

-- a flagged part that is the first of its dump
pub record IsBegin (all : List PartFound) (good : List Bool) (at : ℕ) (p : PartFound) : Type 0 where
  pub stands : Stands all at p
  pub flagged : IsFlagged good at
  pub part : p.head.part ≡ 1

-- Of the flagged parts that are the first of a dump with an id from this one on, among so many: none, or the first one of the least id.
abbrev pub IsNextBegin : List PartFound → List Bool → ℕ → ℕ → Option ℕ → Type 0
IsNextBegin all good least count None = (k : ℕ) (q : PartFound) → k < count → IsBegin all good k q → least ≤ q.head.id → ⊥
IsNextBegin all good least count (Some at) =
    (p : PartFound) × IsBegin all good at p × (least ≤ p.head.id)
    × ((k : ℕ) (q : PartFound) → k < count → IsBegin all good k q → least ≤ q.head.id → (p.head.id ≤ q.head.id) × (q.head.id ≡ p.head.id → at ≤ k))

-- the way of a dump: from the first flagged part that is the dump's first
pub record IsChain (all : List PartFound) (good : List Bool) (c : Chain) : Type 0 where
  pub begin : ℕ
  pub head : PartFound
  pub is : IsBegin all good begin head
  pub id : head.head.id ≡ c.id
  pub first : (k : ℕ) (q : PartFound) → IsBegin all good k q → q.head.id ≡ c.id → begin ≤ k
  pub walk : IsWalk all good begin c.places

-- the ways of all dumps with ids below this one, by ascending id
pub record AreChainsBelow (all : List PartFound) (good : List Bool) (least : ℕ) (chains : List Chain) : Type 0 where
  pub each : All (IsChain all good) chains
  pub below : All (λ c. c.id < least) chains
  pub ascending : AllPairs (λ c d. c.id < d.id) chains
  pub complete : (k : ℕ) (q : PartFound) → IsBegin all good k q → q.head.id < least → (c : Chain) × Contains chains c × (c.id ≡ q.head.id)

-- the ways of all dumps
pub record AreChains (all : List PartFound) (good : List Bool) (chains : List Chain) : Type 0 where
  pub each : All (IsChain all good) chains
  pub ascending : AllPairs (λ c d. c.id < d.id) chains
  pub complete : (k : ℕ) (q : PartFound) → IsBegin all good k q → (c : Chain) × Contains chains c × (c.id ≡ q.head.id)
