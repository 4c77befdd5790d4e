-- The archive: a list of dumps with whole volume contents, from which a restore is one look-up; and when a plant holds it.
use Rattle.std.specs.Prelude.{◌≡◌, ◌⊎◌, ℕ, ◌<◌, Bool, true, false, Option, Some, None, is_none, Result, Ok, Err, List, [], map, find, slice_get, All, Contains}
use Rattle.std.specs.List.{flat_map}
use Rattle.vnode_model.specs.declared.volumes.VolumeFields.{VolumeFields}
use Rattle.budb_changes.specs.declared.change.Change.{Change}
use Rattle.budb_changes.specs.declared.records.TapePart.{TapePart}
use Rattle.budb_changes.specs.declared.records.DumpRecordFields.{DumpRecordFields}
use Rattle.budb_changes.specs.Bytes.{encoded}
use Rattle.budb_changes.specs.Forms.{AreChanges}
use Rattle.budb_fold.specs.Database.{after, has_dump}
use Rattle.budb_fold.specs.Lookups.{VolumeDump, latest}
use Rattle.budb_fold.specs.Chains.{IsChain}
use Rattle.plant_core.specs.Stock.{Stock}
use Rattle.tape_frames.specs.TapeNames.{numbered}
use Rattle.tape_text.specs.Items.{Read}
use Rattle.tape_scan.specs.Slots.{Slot, Located, IsFound, AreHeadsOnce}
use Rattle.archive_model.specs.Holding.{called_for, holds, holder, holder_here, Lies}
use Rattle.archive_model.specs.Plays.{PlayFault, records_of, Plays}

-- ---- refusals of a restore

-- why a volume isn't restored: no listed dump has it; a dump of its chain is missing, by its id; no slot here holds
-- a tape, by the tape's name and the first id of its dump set; or its play has a fault
pub data Refusal : Type 0 where
  NoDump : Refusal
  MissingDump : ℕ → Refusal
  MissingTape : List ℕ → ℕ → Refusal
  Fault : PlayFault → Refusal

-- ---- the archive

-- The log, the slots, and what each dump has of a volume: its contents, or the refusal by which its play ends.
pub record Archive : Type 0 where
  pub log : List Change
  pub slots : List Slot
  pub contents : ℕ → List ℕ → Result VolumeFields Refusal

-- the listed dumps of an archive: what its log of changes leaves listed
abbrev pub listed_of : Archive → List DumpRecordFields
listed_of a = (after a.log).listed

-- ---- a restore is one look-up

-- a tape that a chain is played from, with the dump whose record names it
pub record Need : Type 0 where
  pub dump : DumpRecordFields
  pub tape : ℕ

-- the tapes of one dump for a volume of this name, one for each of the volume's fragments, in their order
abbrev pub needs_of : List ℕ → DumpRecordFields → List Need
needs_of name d = map (λ c. record { dump = d; tape = c.tape }) (called_for d name)

-- the tapes of a chain in playing order: the chain's, and in a dump that of the volume's fragments
abbrev pub needs : List DumpRecordFields → List ℕ → List ℕ → List Need
needs records ids name = flat_map (needs_of name) (records_of records ids)

-- no slot that is here holds the tape of a need
abbrev pub is_missing : List Slot → Need → Bool
is_missing slots n = is_none (holder_here n.dump n.tape slots)

-- the first tape that no slot here holds, by its name and its dump set's first id; else the contents
abbrev pub unless_missing : Option Need → Result VolumeFields Refusal → Result VolumeFields Refusal
unless_missing None contents = contents
unless_missing (Some n) contents = Err (MissingTape (numbered n.dump.base n.tape) n.dump.initial)

-- by the chain of a dump, or the id that is told in its place
abbrev pub looked_up_by : Archive → VolumeDump → Result (List ℕ) ℕ → Result VolumeFields Refusal
looked_up_by a one (Err missing) = Err (MissingDump missing)
looked_up_by a one (Ok ids) = unless_missing (find (is_missing a.slots) (needs (listed_of a) ids one.volume.name)) (a.contents one.dump.id one.volume.name)

-- what a restore of this dump of a volume gives; without one it is refused as `NoDump`
abbrev pub LooksUpOne : Archive → Option VolumeDump → Result VolumeFields Refusal → Type 0
LooksUpOne a None outcome = outcome ≡ Err NoDump
LooksUpOne a (Some one) outcome = (chain : Result (List ℕ) ℕ) × IsChain (listed_of a) one.dump.id one.volume.name chain × (outcome ≡ looked_up_by a one chain)

-- What a restore gives: the contents of the latest listed dump of the name before a time. It is refused where there is none, at
-- the first dump of its chain that isn't listed, going upwards, and at the first tape that no slot here holds, in playing order.
abbrev pub LooksUp : Archive → List ℕ → Option ℕ → Result VolumeFields Refusal → Type 0
LooksUp a name before outcome = LooksUpOne a (latest (listed_of a) name before) outcome

-- ---- the dumps of an archive

-- a dump that is found whole, isn't listed, and whose parent is below its id
pub record IsUnlisted (listed : List DumpRecordFields) (slots : List Slot) (d : DumpRecordFields) : Type 0 where
  pub parts : List Located
  pub found : IsFound slots parts d
  pub unlisted : has_dump listed d.id ≡ false
  pub above : d.parent < d.id

-- the dumps of an archive: the listed ones, and those that are found whole and aren't listed
abbrev pub IsDump : List DumpRecordFields → List Slot → DumpRecordFields → Type 0
IsDump listed slots d = Contains listed d ⊎ IsUnlisted listed slots d

-- ---- when a plant holds an archive

-- what a refusal by play is to a restore
abbrev pub refused_by : Result VolumeFields PlayFault → Result VolumeFields Refusal
refused_by (Ok volume) = Ok volume
refused_by (Err fault) = Err (Fault fault)

-- no slot holds the tape of a need, be the slot here or not
abbrev pub is_unheld : List Slot → Need → Bool
is_unheld slots n = is_none (holder n.dump n.tape slots)

-- every slot counts, whether or not it is here
abbrev pub told_here : Slot → Slot
told_here s = record s { here = true }

-- these slots as if each were here
abbrev pub all_here : List Slot → List Slot
all_here slots = map told_here slots

-- records are those of the archive's dumps
pub record AreDumps (listed : List DumpRecordFields) (slots : List Slot) (records : List DumpRecordFields) : Type 0 where
  pub sound : (d : DumpRecordFields) → Contains records d → IsDump listed slots d
  pub complete : (d : DumpRecordFields) → IsDump listed slots d → Contains records d

-- The contents of each dump whose chain over the dumps is complete and whose tapes are all held are what playing the chain gives.
abbrev pub AreContents : List Slot → (ℕ → List ℕ → Result VolumeFields Refusal) → List DumpRecordFields → Type 0
AreContents slots contents records =
    (d : DumpRecordFields) (name ids : List ℕ) → Contains records d → IsChain records d.id name (Ok ids) → find (is_unheld slots) (needs records ids name) ≡ None
    → (outcome : Result VolumeFields PlayFault) × Plays (all_here slots) records ids name outcome × (contents d.id name ≡ refused_by outcome)

-- no record of a tape is held by two slots
abbrev pub AreHeldOnce : List DumpRecordFields → List Slot → Type 0
AreHeldOnce records slots =
    (d : DumpRecordFields) (tape j k : ℕ) (s t : Slot) → Contains records d → slice_get slots j ≡ Some s → slice_get slots k ≡ Some t
    → holds d tape s.items ≡ true → holds d tape t.items ≡ true → j ≡ k

-- all tapes of a record are held
abbrev pub IsHeld : DumpRecordFields → List Slot → Type 0
IsHeld d slots = (p : TapePart) → Contains d.tapes p → (k : ℕ) × (s : Slot) × (slice_get slots k ≡ Some s) × (holds d p.tape s.items ≡ true)

-- the parts lie on slots that hold their tapes
abbrev pub AreHolders : DumpRecordFields → List Located → List Slot → Type 0
AreHolders d parts slots = All (λ l. (s : Slot) × (slice_get slots l.slot ≡ Some s) × (holds d l.found.part.head.tape s.items ≡ true)) parts

-- Slots, and what is listed, keep dumps of these records with these contents: no two records have one id; no tape of a dump is held
-- twice, and no head stands twice; what is held of a dump lies there; a listed dump all of whose tapes are held is found whole on
-- them, and no other dump is found under a listed id; and the contents are what playing gives.
pub record IsKept (listed : List DumpRecordFields) (slots : List Slot) (contents : ℕ → List ℕ → Result VolumeFields Refusal) (records : List DumpRecordFields) : Type 0 where
  pub dumps : AreDumps listed slots records
  pub ids_once : (d e : DumpRecordFields) → Contains records d → Contains records e → d.id ≡ e.id → d ≡ e
  pub held_once : AreHeldOnce records slots
  pub heads_once : AreHeadsOnce slots
  pub lie : (d : DumpRecordFields) (k : ℕ) (s : Slot) → Contains records d → slice_get slots k ≡ Some s → Lies d s.items
  pub whole : (d : DumpRecordFields) → Contains listed d → IsHeld d slots → (parts : List Located) × IsFound slots parts d × AreHolders d parts slots
  pub agree : (d e : DumpRecordFields) (parts : List Located) → Contains listed d → IsFound slots parts e → e.id ≡ d.id → e ≡ d
  pub contents_are : AreContents slots contents records

-- A plant's log and tapes hold an archive, whose dumps these records are. The log's bytes are the changes'; the slots' items are
-- those of the tapes, and there are no other tapes with records; and the slots keep the dumps.
pub record Holds (stock : Stock) (a : Archive) (records : List DumpRecordFields) : Type 0 where
  pub changes : AreChanges a.log
  pub log : stock.log ≡ Some (encoded a.log)
  pub tapes : (k : ℕ) (s : Slot) → slice_get a.slots k ≡ Some s → Read (stock.tape k) s.items
  pub others : (k : ℕ) → slice_get a.slots k ≡ None → stock.tape k ≡ []
  pub kept : IsKept (listed_of a) a.slots a.contents records

-- ---- blank tapes

-- so many blank slots, each here or not
abbrev pub AreBlank : List Slot → Type 0
AreBlank slots = All (λ s. s.items ≡ []) slots

-- an archive without a change, on these slots and with these contents
abbrev pub blank_archive : List Slot → (ℕ → List ℕ → Result VolumeFields Refusal) → Archive
blank_archive slots contents = record { log = []; slots = slots; contents = contents }
