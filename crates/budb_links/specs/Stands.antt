-- Chains of places.
use Rattle.std.specs.Prelude.{◌≡◌, ◌≢◌, ◌⊎◌, ℕ, List, [], ◌∷◌, not, ◌==◌, if◌then◌else◌, Option, Some, None}
use Rattle.std.specs.List.{filter, AllByRecursion}

-- a place, and the id of the record that stands there
pub record Stand : Type 0 where
  pub place : ℕ
  pub id : ℕ

-- the place of a chain's first member; what is given where there is none
abbrev pub first_place : List Stand → Option ℕ → Option ℕ
first_place [] beyond = beyond
first_place (s ∷ ss) beyond = Some s.place

-- the place of a chain's last member; what is given where there is none
abbrev pub last_place : Option ℕ → List Stand → Option ℕ
last_place before [] = before
last_place before (s ∷ ss) = last_place (Some s.place) ss

-- no member stands at the place
abbrev pub Apart : ℕ → List Stand → Type 0
Apart place = AllByRecursion (λ s. s.place ≢ place)

-- a member stands at the place
abbrev pub Among : ℕ → List Stand → Type 0
Among place [] = ⊥
Among place (s ∷ ss) = (s.place ≡ place) ⊎ Among place ss

-- no place stands twice
abbrev pub Distinct : List Stand → Type 0
Distinct [] = Unit {0}
Distinct (s ∷ ss) = Apart s.place ss × Distinct ss

-- the place behind a place
abbrev pub place_behind : ℕ → List Stand → Option ℕ
place_behind place [] = None
place_behind place (s ∷ ss) = if s.place == place then first_place ss None else place_behind place ss

-- the place of the first member with an id
abbrev pub place_of : ℕ → List Stand → Option ℕ
place_of id [] = None
place_of id (s ∷ ss) = if s.id == id then Some s.place else place_of id ss

-- a chain without the member at a place
abbrev pub without_place : ℕ → List Stand → List Stand
without_place place = filter (λ s. not (s.place == place))
