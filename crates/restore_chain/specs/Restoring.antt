-- How a chain of dumps is played, and what a restore answers.
use Rattle.std.specs.Prelude.{◌≡◌, ◌⊎◌, ℕ, Option, Some, None, Result, Ok, Err, List, map, drop, All}
use Rattle.vnode_model.specs.declared.volumes.VolumeFields.{VolumeFields}
use Rattle.vnode_model.specs.declared.increments.IncrementFields.{IncrementFields}
use Rattle.budb_changes.specs.declared.records.DumpRecordFields.{DumpRecordFields}
use Rattle.budb_fold.specs.Lookups.{VolumeDump}
use Rattle.budb_fold.specs.Chains.{dump_of, IsChain}
use Rattle.tape_frames.specs.TapeNames.{numbered}
use Rattle.tape_text.specs.Wholes.{Lying}
use Rattle.tape_scan.specs.Slots.{Slot}
use Rattle.archive_model.specs.Plays.{PlayFault, BadOnTape, Lacks, Large, Spot, Gives, after_given, IsMade, records_of, PlaysOver, Plays}
use Rattle.archive_model.specs.Archives.{Archive, needs, refused_by, LooksUp}
use Rattle.restore_chain.specs.declared.chain_plan.TapeNeed.{TapeNeed}
use Rattle.restore_chain.specs.declared.chain_plan.ChainPlan.{ChainPlan}
use Rattle.restore_chain.specs.declared.fault.RestoreFault.{RestoreFault}
use Rattle.restore_chain.specs.declared.fault.RestoreFault.TheVariants as faults
use Rattle.restore_chain.specs.declared.play_joined.Site.{Site}
use Rattle.restore_chain.specs.Planning.{located, PlansChain}

-- ---- what is answered

-- An answer tells such an outcome, unless the outside refuses or memory runs out. Of a vnode that is lacking the number alone is
-- told. Nothing that a plan refuses is answered.
abbrev pub Tells : (Result VolumeFields PlayFault → Type 0) → Result VolumeFields RestoreFault → Type 0
Tells IsSo (Ok volume) = IsSo (Ok volume)
Tells IsSo (Err faults.NoDump) = ⊥
Tells IsSo (Err (faults.MissingDump id)) = ⊥
Tells IsSo (Err (faults.MissingTape name initial)) = ⊥
Tells IsSo (Err (faults.BaseLacks number)) = (uniq : ℕ) × IsSo (Err (Lacks number uniq))
Tells IsSo (Err (faults.BadOnTape tape place)) = IsSo (Err (BadOnTape tape place))
Tells IsSo (Err faults.TooLarge) = IsSo (Err Large)
Tells IsSo (Err faults.Failed) = Unit {0}
Tells IsSo (Err faults.Memory) = Unit {0}

-- what a play may answer at all: nothing that a plan refuses
abbrev pub IsPlayAnswer : Result VolumeFields RestoreFault → Type 0
IsPlayAnswer (Ok volume) = Unit {0}
IsPlayAnswer (Err faults.NoDump) = ⊥
IsPlayAnswer (Err (faults.MissingDump id)) = ⊥
IsPlayAnswer (Err (faults.MissingTape name initial)) = ⊥
IsPlayAnswer (Err (faults.BaseLacks number)) = Unit {0}
IsPlayAnswer (Err (faults.BadOnTape tape place)) = Unit {0}
IsPlayAnswer (Err faults.TooLarge) = Unit {0}
IsPlayAnswer (Err faults.Failed) = Unit {0}
IsPlayAnswer (Err faults.Memory) = Unit {0}

-- A plan's dumps are a chain among these listed ones, whatever the slots are.
pub record IsChained (listed : List DumpRecordFields) (plan : ChainPlan) : Type 0 where
  pub one : VolumeDump
  pub name : plan.name ≡ one.volume.name
  pub chain : IsChain listed one.dump.id one.volume.name (Ok plan.dumps)

-- A plan is one of these listed dumps and these slots: for some dump and volume it is what a plan answers.
abbrev pub IsPlanOf : List Slot → List DumpRecordFields → ChainPlan → Type 0
IsPlanOf slots listed plan = (one : VolumeDump) × PlansChain slots listed one plan

-- what playing a plan answers: what playing its dumps gives
abbrev pub PlaysPlan : List Slot → List DumpRecordFields → ChainPlan → Result VolumeFields RestoreFault → Type 0
PlaysPlan slots listed plan result = Tells (Plays slots listed plan.dumps plan.name) result

-- ---- what it is to an archive

-- an answer is what a look-up gives
abbrev pub RestoresFrom : Archive → List ℕ → Option ℕ → Result VolumeFields RestoreFault → Type 0
RestoresFrom a name before result = Tells (λ outcome. LooksUp a name before (refused_by outcome)) result

-- ---- inside the crate

-- a record of a tape that isn't what a dump's record calls for, by the tape's name, unless memory runs out
abbrev pub IsBadAt : DumpRecordFields → Site → RestoreFault → Type 0
IsBadAt d site fault = (fault ≡ faults.BadOnTape (numbered d.base site.tape) site.place) ⊎ (fault ≡ faults.Memory)

-- what one dump's fragments give over a base
abbrev pub PlaysFrags : List Slot → DumpRecordFields → List Lying → Option VolumeFields → Result VolumeFields PlayFault → Type 0
PlaysFrags slots d cs base outcome =
    (given : Result IncrementFields Spot) × Gives slots d cs given × after_given d base given (λ volume. IsMade (Some volume) outcome) outcome

-- the dumps of these ids are listed and have the volume
abbrev pub AreDumped : List DumpRecordFields → List ℕ → List ℕ → Type 0
AreDumped listed name ids = All (λ i. (d : VolumeDump) × (dump_of listed name i ≡ Some d)) ids

-- The dumps of these ids have the volume, and these are the tapes that they are played from, with the slots that hold them.
pub record AreReady (slots : List Slot) (listed : List DumpRecordFields) (name ids : List ℕ) (tapes : List TapeNeed) : Type 0 where
  pub there : AreDumped listed name ids
  pub held : map (located slots) (needs listed ids name) ≡ map Some tapes

-- So many dumps of a chain were played: they made this volume, these tapes are left, and what the dumps that are left give over it
-- is what the chain gives.
pub record HavePlayed (slots : List Slot) (listed : List DumpRecordFields) (name ids : List ℕ) (count : ℕ) (base : Option VolumeFields) (rest : List TapeNeed) : Type 0 where
  pub ready : AreReady slots listed name (drop count ids) rest
  pub whole : (outcome : Result VolumeFields PlayFault) → PlaysOver slots name base (records_of listed (drop count ids)) outcome → PlaysOver slots name None (records_of listed ids) outcome
  pub made : base ≡ None → count ≡ 0
