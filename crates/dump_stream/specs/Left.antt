-- What is left of a stream that is given in pieces. It goes by steps: the headers, then each vnode, then the end.
use Rattle.std.specs.Prelude.{◌≡◌, ◌⊎◌, ℕ, ◌+◌, ◌-◌, ◌<◌, ◌≤◌, List, [], ◌∷◌, ◌++◌, length, map, take, drop, Option, None, Some, slice_get, if◌then◌else◌, ◌==◌, nat_le}
use Rattle.std.specs.List.{flat_map}
use Rattle.vnode_model.specs.declared.vnodes.Vnode.{Vnode}
use Rattle.vnode_model.specs.Increments.{entry_from}
use Rattle.dump_stream.specs.declared.places.Place.{Place}
use Rattle.dump_stream.specs.Forms.{closing}
use Rattle.dump_stream.specs.Stream.{section}
use Rattle.dump_stream.specs.Written.{section_of}
use Rattle.dump_stream.specs.Parts.{data_of}

-- the data of a vnode in an increment from this time on
abbrev pub data_from : ℕ → Option Vnode → List ℕ
data_from since None = []
data_from since (Some v) = data_of (entry_from since v)

-- the data of a step: the first one has no vnode
abbrev pub step_data : List Vnode → ℕ → ℕ → List ℕ
step_data vnodes since step = if step == 0 then [] else data_from since (slice_get vnodes (step - 1))

-- the bytes of all later steps
abbrev pub behind : List Vnode → ℕ → ℕ → List ℕ
behind vnodes since step =
    if nat_le step (length vnodes) then flat_map section (map section_of (map (entry_from since) (drop step vnodes))) ++ 4 ∷ closing else []

-- the bytes of this step that weren't given
abbrev pub here : List Vnode → ℕ → Place → List ℕ
here vnodes since place = drop place.taken place.part ++ drop place.given (step_data vnodes since place.step)

-- all bytes of the stream that weren't given: those of this step and those of all later ones
abbrev pub left : List Vnode → ℕ → Place → List ℕ
left vnodes since place = here vnodes since place ++ behind vnodes since place.step

-- the next bytes that are left were put at the front of the room
pub record Gives (bytes after room filled : List ℕ) (count : ℕ) : Type 0 where
  pub within : count ≤ length room
  pub had : count ≤ length bytes
  pub filled_with : filled ≡ take count bytes ++ drop count room
  pub after_is : after ≡ drop count bytes

-- some bytes were given, or else the next step was begun
pub record Turns (vnodes : List Vnode) (since : ℕ) (old new : Place) (room filled : List ℕ) (count : ℕ) : Type 0 where
  pub gives : Gives (left vnodes since old) (left vnodes since new) room filled count
  pub moves : ((0 < count) × (new.step ≡ old.step)) ⊎ ((count ≡ 0) × (new.step ≡ old.step + 1) × (old.step ≤ length vnodes))

-- nothing is left, and nothing was done
pub record IsOver (vnodes : List Vnode) (since : ℕ) (old new : Place) (room filled : List ℕ) : Type 0 where
  pub none : left vnodes since old ≡ []
  pub stays : left vnodes since new ≡ []
  pub same : filled ≡ room
