-- What a crash inside a call of a plant may leave: an image of the call's start, changed so. Each step has its frame: the parts
-- that it doesn't touch are as before.
use Rattle.std.specs.Prelude.{◌≡◌, ◌≢◌, ◌⊎◌, ℕ, List, [], ◌∷◌, ◌++◌, take, Option, Some}
use Rattle.crash_moments.specs.Telling.{IsFront, Extends}
use Rattle.plant_core.specs.Crashes.{State, IsTorn}
use Rattle.plant_core.specs.Records.{Record}
use Rattle.plant_core.specs.Stock.{Stock}

-- nothing changes
abbrev pub Same : Stock → Stock → Type 0
Same old new = new ≡ old

-- Until a commit or a replacement is done a crash leaves the old log, or the new one.
pub record OldOr (log : List ℕ) (old new : Stock) : Type 0 where
  pub here : (new.log ≡ old.log) ⊎ (new.log ≡ Some log)
  pub tapes : (k : ℕ) → new.tape k ≡ old.tape k
  pub told : new.told ≡ old.told

-- one tape becomes such a list, and nothing else changes
pub record AtTape (k : ℕ) (Is : List Record → Type 0) (old new : Stock) : Type 0 where
  pub here : Is (new.tape k)
  pub others : (j : ℕ) → j ≢ k → new.tape j ≡ old.tape j
  pub log : new.log ≡ old.log
  pub told : new.told ≡ old.told

-- while one record more is put on a tape
abbrev pub MayGain : Record → ℕ → State → Stock → Stock → Type 0
MayGain more k s = AtTape k (IsTorn (s.settled k) (s.tape k ++ more ∷ []))

-- While a tape is cut, the list is one that an image could have before, or the cut one.
abbrev pub MayKeep : ℕ → ℕ → State → Stock → Stock → Type 0
MayKeep n k s = AtTape k (λ tape. IsTorn (s.settled k) (s.tape k) tape ⊎ (tape ≡ take n (s.tape k)))

-- the tape that a load puts away: the one that was loaded, where it is another one
abbrev pub IsPutAway : Option ℕ → ℕ → ℕ → Type 0
IsPutAway loaded slot k = (loaded ≡ Some k) × (k ≢ slot)

-- While a tape is loaded, what was put on the one that is put away is being settled.
pub record MaySettle (loaded : Option ℕ) (slot : ℕ) (s : State) (old new : Stock) : Type 0 where
  pub away : (k : ℕ) → IsPutAway loaded slot k → IsTorn (s.settled k) (s.tape k) (new.tape k)
  pub others : (k : ℕ) → (IsPutAway loaded slot k → ⊥) → new.tape k ≡ old.tape k
  pub log : new.log ≡ old.log
  pub told : new.told ≡ old.told

-- the output grows to a front of this, and nothing else changes
pub record TellsTo (whole : List ℕ) (old new : Stock) : Type 0 where
  pub front : IsFront new.told whole
  pub grows : Extends old.told new.told
  pub tapes : (k : ℕ) → new.tape k ≡ old.tape k
  pub log : new.log ≡ old.log
