-- Playing a chain of dumps from tapes.
use Rattle.std.specs.Prelude.{◌≡◌, ◌⊎◌, ℕ, ◌+◌, ◌-◌, ◌<◌, ◌≤◌, Option, Some, None, IsSomeAnd, Result, Ok, Err, List, [], ◌∷◌, ◌++◌, length, take, drop, sum_by, All}
use Rattle.std.specs.List.{flat_map, filter_map}
use Rattle.vnode_model.specs.declared.volumes.VolumeFields.{VolumeFields}
use Rattle.vnode_model.specs.declared.increments.IncrementFields.{IncrementFields}
use Rattle.vnode_model.specs.declared.applying.ApplyFault.{ApplyFault}
use Rattle.vnode_model.specs.declared.applying.ApplyFault.TheVariants as faults
use Rattle.vnode_model.specs.Increments.{applied}
use Rattle.dump_stream.specs.Stream.{Spells}
use Rattle.dump_stream.specs.Reads.{IsCut, IsBad}
use Rattle.budb_changes.specs.declared.records.DumpRecordFields.{DumpRecordFields}
use Rattle.budb_fold.specs.Lookups.{record_of}
use Rattle.tape_text.specs.Items.{Item, IsFitItem}
use Rattle.tape_frames.specs.declared.data.DataFields.{DataFields}
use Rattle.tape_text.specs.Texts.{Fragment, fragment_frames, IsFragment}
use Rattle.tape_frames.specs.TapeNames.{numbered}
use Rattle.tape_text.specs.Wholes.{Lying}
use Rattle.tape_writer.specs.Filling.{fragment_bytes}
use Rattle.tape_scan.specs.Slots.{Slot}
use Rattle.archive_model.specs.Holding.{called_for, holder_here}

-- ---- one fragment

-- a fragment as it is called for, of frames that there are
pub record IsCalled (c : Lying) (f : Fragment) : Type 0 where
  pub head : f.head ≡ c.head
  pub last : f.end.last ≡ c.last
  pub is : IsFragment f
  pub fit : All IsFitItem (fragment_frames f)

-- these items begin such a fragment
pub record BeginsCalled (c : Lying) (items : List Item) : Type 0 where
  pub fragment : Fragment
  pub is : IsCalled c fragment
  pub more : List Item
  pub joined : fragment_frames fragment ≡ items ++ more

-- they begin one and are not all of it
pub record GoesOnCalled (c : Lying) (items : List Item) : Type 0 where
  pub fragment : Fragment
  pub is : IsCalled c fragment
  pub next : Item
  pub more : List Item
  pub joined : fragment_frames fragment ≡ items ++ next ∷ more

-- the items from a record on, up to another, it included
abbrev pub up_to : ℕ → ℕ → List Item → List Item
up_to from until items = take (until + 1 - from) (drop from items)

-- the fragment stands there
pub record StandsAt (c : Lying) (items : List Item) (f : Fragment) : Type 0 where
  pub is : IsCalled c f
  pub there : take (length (fragment_frames f)) (drop c.at items) ≡ fragment_frames f

-- The first record that isn't called for: those from the fragment's place up to it begin such a fragment and aren't all of it, and
-- with it they begin none. One that isn't there counts too.
pub record IsFirstBad (c : Lying) (items : List Item) (place : ℕ) : Type 0 where
  pub behind : c.at ≤ place
  pub there : (n : ℕ) → c.at ≤ n → n < place → n < length items
  pub before : GoesOnCalled c (take (place - c.at) (drop c.at items))
  pub here : (length items ≤ place) ⊎ (BeginsCalled c (up_to c.at place items) → ⊥)

-- ---- one dump

-- a record on a tape
pub record Spot : Type 0 where
  pub tape : ℕ
  pub place : ℕ

-- a fragment stands on the least slot here that holds its tape
abbrev pub StandsOn : List Slot → DumpRecordFields → Lying → Fragment → Type 0
StandsOn slots d c f = IsSomeAnd (holder_here d c.tape slots) (λ s. StandsAt c s.1.items f)

-- these fragments stand, one for each that is called for, in order, each on the least slot here that holds its tape
abbrev pub AllStand : List Slot → DumpRecordFields → List Lying → List Fragment → Type 0
AllStand slots d [] [] = Unit {0}
AllStand slots d (c ∷ cs) (f ∷ fs) = StandsOn slots d c f × AllStand slots d cs fs
AllStand slots d [] (f ∷ fs) = ⊥
AllStand slots d (c ∷ cs) [] = ⊥

-- the first fragment that doesn't stand, and its first record that isn't called for
pub record HasBadFrame (slots : List Slot) (d : DumpRecordFields) (cs : List Lying) (spot : Spot) : Type 0 where
  pub before : List Lying
  pub bad : Lying
  pub behind : List Lying
  pub joined : cs ≡ before ++ bad ∷ behind
  pub fragments : List Fragment
  pub stand : AllStand slots d before fragments
  pub tape : spot.tape ≡ bad.tape
  pub place : IsSomeAnd (holder_here d bad.tape slots) (λ s. IsFirstBad bad s.1.items spot.place)

-- a Data frame with its place
pub record Piece : Type 0 where
  pub spot : Spot
  pub data_frame : DataFields

-- Data frames that stand one behind the other on a tape, the first one in the record of this number
abbrev pub pieces_from : ℕ → ℕ → List DataFields → List Piece
pieces_from tape place [] = []
pieces_from tape place (d ∷ ds) = record { spot = record { tape = tape; place = place }; data_frame = d } ∷ pieces_from tape (place + 1) ds

-- the Data frames of fragments that stand, in order; a fragment's first stands behind its head
abbrev pub pieces_of : List Lying → List Fragment → List Piece
pieces_of [] fs = []
pieces_of (c ∷ cs) [] = []
pieces_of (c ∷ cs) (f ∷ fs) = pieces_from c.tape (c.at + 1) f.pieces ++ pieces_of cs fs

-- the Data frame that has a byte of the joined data
pub record HasByte (pieces : List Piece) (at : ℕ) (spot : Spot) : Type 0 where
  pub before : List Piece
  pub piece : Piece
  pub behind : List Piece
  pub joined : pieces ≡ before ++ piece ∷ behind
  pub low : sum_by (λ p. p.data_frame.used) before ≤ at
  pub high : at < sum_by (λ p. p.data_frame.used) before + piece.data_frame.used
  pub is : spot ≡ piece.spot

-- the last fragment's end
abbrev pub IsLastEnd : List Lying → List Fragment → Spot → Type 0
IsLastEnd [] fs spot = ⊥
IsLastEnd (c ∷ cs) [] spot = ⊥
IsLastEnd (c ∷ cs) (f ∷ []) spot = (spot.tape ≡ c.tape) × (spot.place ≡ c.at + length f.pieces + 1)
IsLastEnd (c ∷ cs) (f ∷ g ∷ fs) spot = IsLastEnd cs (g ∷ fs) spot

-- the first byte that no stream has there: also the one behind a whole stream
abbrev pub StopsAt : List ℕ → ℕ → Type 0
StopsAt bytes at = IsBad bytes at ⊎ ((at < length bytes) × (i : IncrementFields) × Spells (take at bytes) i)

-- The fragments stand and their data is no stream: the Data frame that has the first byte which no stream has there, and where
-- the data is a proper prefix of a stream the last fragment's end.
pub record HasBadStream (slots : List Slot) (d : DumpRecordFields) (cs : List Lying) (spot : Spot) : Type 0 where
  pub fragments : List Fragment
  pub stand : AllStand slots d cs fragments
  pub stops : ((at : ℕ) × StopsAt (flat_map fragment_bytes fragments) at × HasByte (pieces_of cs fragments) at spot)
      ⊎ (IsCut (flat_map fragment_bytes fragments) × IsLastEnd cs fragments spot)

-- the fragments stand and their data is a stream that says this
pub record HasStream (slots : List Slot) (d : DumpRecordFields) (cs : List Lying) (i : IncrementFields) : Type 0 where
  pub fragments : List Fragment
  pub stand : AllStand slots d cs fragments
  pub spells : Spells (flat_map fragment_bytes fragments) i

-- what a volume's fragments in a dump give: an increment, or a record on a tape that isn't what the database calls for
abbrev pub Gives : List Slot → DumpRecordFields → List Lying → Result IncrementFields Spot → Type 0
Gives slots d cs (Ok i) = HasStream slots d cs i
Gives slots d cs (Err spot) = HasBadFrame slots d cs spot ⊎ HasBadStream slots d cs spot

-- ---- a chain

-- why a chain isn't played: a record isn't what is called for, by its tape's name and its number from 0 on;
-- the volume so far lacks a vnode, by its number and uniquifier; or its data would have too many bytes
pub data PlayFault : Type 0 where
  BadOnTape : List ℕ → ℕ → PlayFault
  Lacks : ℕ → ℕ → PlayFault
  Large : PlayFault

-- what applying an increment comes to: with a volume the play goes on, and a fault is the outcome
abbrev pub after_applied : Result VolumeFields ApplyFault → (VolumeFields → Type 0) → Result VolumeFields PlayFault → Type 0
after_applied (Ok volume) goes_on outcome = goes_on volume
after_applied (Err (faults.BaseLacks number uniq)) goes_on outcome = outcome ≡ Err (Lacks number uniq)
after_applied (Err faults.TooLarge) goes_on outcome = outcome ≡ Err Large
after_applied (Err faults.Memory) goes_on outcome = ⊥

-- what a dump's fragments come to: an increment is applied over the base; a bad record is the outcome
abbrev pub after_given : DumpRecordFields → Option VolumeFields → Result IncrementFields Spot → (VolumeFields → Type 0) → Result VolumeFields PlayFault → Type 0
after_given d base (Ok i) goes_on outcome = after_applied (applied base i) goes_on outcome
after_given d base (Err spot) goes_on outcome = outcome ≡ Err (BadOnTape (numbered d.base spot.tape) spot.place)

-- a volume that was made
abbrev pub IsMade : Option VolumeFields → Result VolumeFields PlayFault → Type 0
IsMade None outcome = ⊥
IsMade (Some volume) outcome = outcome ≡ Ok volume

-- Dumps are played one after the other over a base; the first one that has a fault decides.
abbrev pub PlaysOver : List Slot → List ℕ → Option VolumeFields → List DumpRecordFields → Result VolumeFields PlayFault → Type 0
PlaysOver slots name base [] outcome = IsMade base outcome
PlaysOver slots name base (d ∷ ds) outcome =
    (given : Result IncrementFields Spot) × Gives slots d (called_for d name) given
    × after_given d base given (λ volume. PlaysOver slots name (Some volume) ds outcome) outcome

-- the records of these ids
abbrev pub records_of : List DumpRecordFields → List ℕ → List DumpRecordFields
records_of records ids = filter_map (record_of records) ids

-- a chain is played from no base
abbrev pub Plays : List Slot → List DumpRecordFields → List ℕ → List ℕ → Result VolumeFields PlayFault → Type 0
Plays slots records ids name outcome = PlaysOver slots name None (records_of records ids) outcome
