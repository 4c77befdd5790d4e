-- What is so of a dump between two steps, whatever stands on tapes, and what a plant and a cell owe it.
use Rattle.std.specs.Prelude.{◌≡◌, ◌≢◌, ℕ, ◌+◌, ◌*◌, ◌<◌, ◌≤◌, Option, Some, None, List, [], length, map, All, IsSome, IfSome, IsTrue, slice_get}
use Rattle.plant_core.specs.declared.plant.Plant.{Ghosts as Plant}
use Rattle.plant_core.specs.Records.{NoBad}
use Rattle.plant_effects.specs.Runs.{state_of}
use Rattle.cell_core.specs.declared.cell.Cell.{Ghosts as Cell}
use Rattle.cell_core.specs.Calls.{is_good}
use Rattle.tape_writer.specs.Room.{HasRoom, with_label}
use Rattle.budb_changes.specs.Dumps.{IsNamed}
use Rattle.dump_job.specs.declared.fields.Hand.{Hand}
use Rattle.dump_job.specs.declared.fields.JobFields.{JobFields}
use Rattle.dump_job.specs.declared.fields.Phase.{Phase}
use Rattle.dump_job.specs.declared.fields.Phase.TheVariants as phase
use Rattle.dump_job.specs.Reels.{records_on, counts_on, IsOn}
use Rattle.dump_job.specs.Taping.{IsFor}
use Rattle.dump_job.specs.Cloning.{volumes_done}
use Rattle.dump_job.specs.Ending.{place_of_part}
use Rattle.dump_job.specs.Settling.{last_filled}
use Rattle.dump_job.specs.Beginning.{fresh}

-- ---- a dump for itself

-- before the first clone a volume is left
abbrev pub IsHandOrFirst : Option Hand → JobFields → Type 0
IsHandOrFirst None j = length (volumes_done j) < length j.places
IsHandOrFirst (Some h) j = Unit {0}

-- before the tape step: the tape has room for the smallest part, with the label that it gets
pub record IsAtTape (j : JobFields) : Type 0 where
  pub few : j.reel.blocks * 16384 ≤ j.port.capacity
  pub room : HasRoom 5 2 (with_label j.label (counts_on j.port j.reel))
  pub spare : j.spare ≡ Some j.head
  pub uses : 1 ≤ j.head.uses
  pub hand : IsHandOrFirst j.hand j

-- before a clone step: a volume is left, and the tape has room for the part's end and its filemark
pub record IsAtClone (j : JobFields) : Type 0 where
  pub room : HasRoom 1 1 (counts_on j.port j.reel)
  pub left : length (volumes_done j) < length j.places

-- a fragment of the volume in hand is due, or the end of the part
pub record IsAtHead (j : JobFields) : Type 0 where
  pub room : HasRoom 1 1 (counts_on j.port j.reel)
  pub hand : IsSome j.hand

-- Something is left of the stream, and no more of it stands in the fragment than its blocks hold.
pub record IsAtPiece (j : JobFields) : Type 0 where
  pub room : HasRoom 2 2 (counts_on j.port j.reel)
  pub hand : IsSome j.hand
  pub left : IfSome j.hand (λ h. h.stream ≢ [])
  pub bytes : IfSome j.hand (λ h. h.bytes ≤ 16352 * j.reel.blocks)

-- before the end of a volume: a volume is in hand, and the tape has room for its end and the part's
pub record IsAtVolumeEnd (j : JobFields) : Type 0 where
  pub room : HasRoom 2 2 (counts_on j.port j.reel)
  pub hand : IsSome j.hand

-- what the next step asks of the dump
abbrev pub IsAt : Phase → JobFields → Type 0
IsAt phase.Tape j = IsAtTape j
IsAt phase.Clone j = IsAtClone j
IsAt phase.Head j = IsAtHead j
IsAt phase.Piece j = IsAtPiece j
IsAt phase.VolumeEnd j = IsAtVolumeEnd j
IsAt phase.PartEnd j = IsAtHead j
IsAt phase.DumpEnd j = HasRoom 1 1 (counts_on j.port j.reel)
IsAt phase.Over j = Unit {0}

-- The volume in hand is the one behind those that are done, and its next fragment the one behind those on earlier tapes. Streams have
-- fewer than 2^30 bytes.
pub record IsInHand (j : JobFields) (h : Hand) : Type 0 where
  pub frags : length h.frags ≤ length j.filled
  pub fragment : h.head.fragment ≡ length h.frags + 1
  pub index : h.head.index ≡ length j.volumes
  pub stream : length h.stream < 1073741824

-- What is so of a dump between two steps: its parts and its volumes are counted, it has at most 65,535 parts, and the next step has room.
pub record IsJob (j : JobFields) : Type 0 where
  pub fresh : HasRoom 6 3 (fresh j.port)
  pub marks : j.reel.marks ≤ j.reel.blocks
  pub part : j.head.part ≡ length j.filled + 1
  pub few_parts : length j.filled ≤ 65534
  pub named : All IsNamed (map place_of_part j.filled)
  pub hand : IfSome j.hand (IsInHand j)
  pub volumes : length (volumes_done j) ≤ length j.places
  pub few_volumes : length j.places ≤ 4294967295
  pub at : IsAt j.phase j

-- ---- a dump and a plant

-- the tape of a slot is here, and has no bad record
pub record IsWholeIn {D : Type 0} (P : Plant D) (plant : D) (slot : ℕ) : Type 0 where
  pub here : IsTrue ((P.view plant).present slot)
  pub whole : P.tells → NoBad ((state_of P plant).tape slot)

-- before the tape step: the tape in hand has as many records as stay, and the tape of the part before it is whole
pub record FitsTape {D : Type 0} (P : Plant D) (j : JobFields) (plant : D) : Type 0 where
  pub next : IsFor P j.reel.slot (records_on j.reel) plant
  pub last : IfSome (last_filled j.filled) (IsWholeIn P plant)

-- what the tape in hand has to be before a step: with the records that the dump counts, and none of them bad
abbrev pub FitsAt : {D : Type 0} → Plant D → Phase → JobFields → D → Type 0
FitsAt P phase.Tape j plant = FitsTape P j plant
FitsAt P phase.Clone j plant = IsOn P j.reel.slot (records_on j.reel) plant
FitsAt P phase.Head j plant = IsOn P j.reel.slot (records_on j.reel) plant
FitsAt P phase.Piece j plant = IsOn P j.reel.slot (records_on j.reel) plant
FitsAt P phase.VolumeEnd j plant = IsOn P j.reel.slot (records_on j.reel) plant
FitsAt P phase.PartEnd j plant = IsOn P j.reel.slot (records_on j.reel) plant
FitsAt P phase.DumpEnd j plant = IsOn P j.reel.slot (records_on j.reel) plant
FitsAt P phase.Over j plant = IsOn P j.reel.slot (records_on j.reel) plant

-- A dump fits a plant: the tape in hand is here, with the records that the dump counts and no bad one.
pub record FitsJob {D : Type 0} (P : Plant D) (j : JobFields) (plant : D) : Type 0 where
  pub job : IsJob j
  pub tape : FitsAt P j.phase j plant

-- ---- a dump and a cell

-- Each of its volumes is the place of an entry of the cell that isn't bad.
pub record HasPlaces {E : Type 0} (C : Cell E) (places : List ℕ) (cell : E) : Type 0 where
  pub within : All (λ place. place < C.size cell) places
  pub good : C.tells → All (λ place. IsTrue (is_good (slice_get (C.list cell) place))) places
