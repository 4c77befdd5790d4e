-- Chains of increments: a whole one, and others behind it.
use Rattle.std.specs.Prelude.{◌≡◌, ⊤, ℕ, Option, Some, None, Result, Ok, Err, List, [], ◌∷◌, map, fold}
use Rattle.vnode_model.specs.declared.increments.IncrementFields.{IncrementFields}
use Rattle.vnode_model.specs.declared.volumes.VolumeFields.{VolumeFields}
use Rattle.vnode_model.specs.declared.applying.ApplyFault.{ApplyFault}
use Rattle.vnode_model.specs.Limits.{AreFit, AreVolume}
use Rattle.vnode_model.specs.Increments.{selected, applied, Follows}

-- a base is a volume, or there is none
abbrev pub IsBase : Option VolumeFields → Type 0
IsBase None = ⊤
IsBase (Some base) = AreVolume base.vnodes

-- a volume may come behind a base since a time: it follows it since then; without a base it comes from 0 alone
abbrev pub ComesBehind : Option VolumeFields → ℕ → VolumeFields → Type 0
ComesBehind None since new = since ≡ 0
ComesBehind (Some old) since new = Follows old since new

-- a volume of a chain, the time since which it comes behind the one before it, and the time of its state
pub record Link : Type 0 where
  pub volume : VolumeFields
  pub since : ℕ
  pub until : ℕ

-- what a dump of a link's volume says: the increment from its `since` on, with `until` as the time of its state
abbrev pub increment_of : Link → IncrementFields
increment_of link = selected link.volume link.since link.until

-- volumes, the first of which comes behind the base, and each other one behind the one before it
abbrev pub IsChain : Option VolumeFields → List Link → Type 0
IsChain base [] = ⊤
IsChain base (link ∷ links) = AreVolume link.volume.vnodes × ComesBehind base link.since link.volume × IsChain (Some link.volume) links

-- the last volume of a chain
abbrev pub last_of : Option VolumeFields → List Link → Option VolumeFields
last_of base [] = base
last_of base (link ∷ links) = last_of (Some link.volume) links

-- increments applied one behind another, each to what the ones before it gave, up to the first fault
abbrev pub as_base : Result VolumeFields ApplyFault → Result (Option VolumeFields) ApplyFault
as_base (Ok volume) = Ok (Some volume)
as_base (Err fault) = Err fault

-- one more increment, applied to what the ones before it gave; a fault that they gave stays
abbrev pub applied_on : Result (Option VolumeFields) ApplyFault → IncrementFields → Result (Option VolumeFields) ApplyFault
applied_on (Ok base) increment = as_base (applied base increment)
applied_on (Err fault) increment = Err fault

-- what a base, or none, becomes by these increments in order; the first fault where there is one
abbrev pub all_applied : Option VolumeFields → List IncrementFields → Result (Option VolumeFields) ApplyFault
all_applied base increments = fold applied_on (Ok base) increments

-- ---- the laws

-- a volume's increment from 0, applied to no base, gives the volume
abbrev pub WholeRestores : Type 0
WholeRestores = (new : VolumeFields) (until : ℕ) → AreVolume new.vnodes → applied None (selected new 0 until) ≡ Ok new

-- the increments of a chain, applied to its base one behind another, give its last volume
abbrev pub ChainRestores : Type 0
ChainRestores = (base : Option VolumeFields) (links : List Link) → IsBase base → IsChain base links → all_applied base (map increment_of links) ≡ Ok (last_of base links)

-- what applying gives is a volume
abbrev pub AppliedIsVolume : Type 0
AppliedIsVolume =
    (base : Option VolumeFields) (increment : IncrementFields) (volume : VolumeFields) → IsBase base → AreFit increment.entries → applied base increment ≡ Ok volume → AreVolume volume.vnodes
