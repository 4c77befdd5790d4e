-- What a restore needs: the dumps of a chain and the tapes that it is played from, or what is missing.
use Rattle.std.specs.Prelude.{◌≡◌, ℕ, Bool, true, false, Option, Some, None, Result, Ok, Err, List, [], ◌∷◌, ◌++◌, map, find}
use Rattle.budb_changes.specs.declared.records.Frag.{Frag}
use Rattle.budb_changes.specs.declared.records.VolRecordFields.{VolRecordFields}
use Rattle.budb_changes.specs.declared.records.DumpRecordFields.{DumpRecordFields}
use Rattle.budb_fold.specs.Lookups.{VolumeDump, record_of, volume_of, latest}
use Rattle.budb_fold.specs.Chains.{IsChain, HaveParentsBelow}
use Rattle.tape_frames.specs.declared.frame.Frame.{Frame}
use Rattle.tape_frames.specs.TapeNames.{numbered}
use Rattle.tape_text.specs.Items.{Item, Says, Filemark, Nothing}
use Rattle.tape_scan.specs.Slots.{Slot}
use Rattle.archive_model.specs.Holding.{holder_here}
use Rattle.archive_model.specs.Archives.{Archive, Refusal, NoDump, MissingDump, MissingTape, Need, listed_of, needs, is_missing, LooksUp}
use Rattle.restore_chain.specs.declared.chain_plan.TapeNeed.{TapeNeed}
use Rattle.restore_chain.specs.declared.chain_plan.ChainPlan.{ChainPlan}
use Rattle.restore_chain.specs.declared.fault.RestoreFault.{RestoreFault}
use Rattle.restore_chain.specs.declared.fault.RestoreFault.TheVariants as faults
use Rattle.restore_chain.specs.declared.fault.LookFault.{LookFault}
use Rattle.restore_chain.specs.declared.fault.LookFault.TheVariants as look_faults
use Rattle.restore_chain.specs.declared.planning.Found.{Found}
use Rattle.restore_chain.specs.declared.planning.Found.TheVariants.{All, Missing}

-- ---- a need, and the tape that meets it

-- a need with the least slot here that holds its tape
abbrev pub located_by : Need → Option (ℕ × Slot) → Option TapeNeed
located_by n None = None
located_by n (Some s) = Some (record { name = numbered n.dump.base n.tape; initial = n.dump.initial; tape = n.tape; slot = s.0 })

-- a tape that is needed, with the least slot here that holds it
abbrev pub located : List Slot → Need → Option TapeNeed
located slots n = located_by n (holder_here n.dump n.tape slots)

-- ---- what a plan answers

-- the dumps and tapes of a chain
pub record PlansChain (slots : List Slot) (listed : List DumpRecordFields) (one : VolumeDump) (plan : ChainPlan) : Type 0 where
  pub name : plan.name ≡ one.volume.name
  pub chain : IsChain listed one.dump.id one.volume.name (Ok plan.dumps)
  pub tapes : map (located slots) (needs listed plan.dumps one.volume.name) ≡ map Some plan.tapes

-- the first of these needs whose tape no slot here holds, by the tape's name and its dump set's first id
pub record IsFirstMissing (slots : List Slot) (all : List Need) (name : List ℕ) (initial : ℕ) : Type 0 where
  pub need : Need
  pub first : find (is_missing slots) all ≡ Some need
  pub named : name ≡ numbered need.dump.base need.tape
  pub initial_is : initial ≡ need.dump.initial

-- the first tape of a chain, in playing order, that no slot here holds
pub record MissesTape (slots : List Slot) (listed : List DumpRecordFields) (one : VolumeDump) (name : List ℕ) (initial : ℕ) : Type 0 where
  pub dumps : List ℕ
  pub chain : IsChain listed one.dump.id one.volume.name (Ok dumps)
  pub missing : IsFirstMissing slots (needs listed dumps one.volume.name) name initial

-- What a plan of a volume's dump answers. A missing dump is told exactly where each parent lies below its dump, as in the database
-- of every log.
abbrev pub PlansOne : List Slot → List DumpRecordFields → VolumeDump → Result ChainPlan RestoreFault → Type 0
PlansOne slots listed one (Ok plan) = PlansChain slots listed one plan
PlansOne slots listed one (Err faults.NoDump) = ⊥
PlansOne slots listed one (Err (faults.MissingDump id)) = HaveParentsBelow listed → IsChain listed one.dump.id one.volume.name (Err id)
PlansOne slots listed one (Err (faults.MissingTape name initial)) = MissesTape slots listed one name initial
PlansOne slots listed one (Err (faults.BaseLacks number)) = ⊥
PlansOne slots listed one (Err (faults.BadOnTape tape place)) = ⊥
PlansOne slots listed one (Err faults.TooLarge) = ⊥
PlansOne slots listed one (Err faults.Failed) = Unit {0}
PlansOne slots listed one (Err faults.Memory) = Unit {0}

-- nothing is planned where there is no dump
abbrev pub PlansNothing : Result ChainPlan RestoreFault → Type 0
PlansNothing (Ok plan) = ⊥
PlansNothing (Err faults.NoDump) = Unit {0}
PlansNothing (Err (faults.MissingDump id)) = ⊥
PlansNothing (Err (faults.MissingTape name initial)) = ⊥
PlansNothing (Err (faults.BaseLacks number)) = ⊥
PlansNothing (Err (faults.BadOnTape tape place)) = ⊥
PlansNothing (Err faults.TooLarge) = ⊥
PlansNothing (Err faults.Failed) = Unit {0}
PlansNothing (Err faults.Memory) = Unit {0}

-- the plan of a volume's latest dump, or that there is none
abbrev pub PlansFor : List Slot → List DumpRecordFields → Option VolumeDump → Result ChainPlan RestoreFault → Type 0
PlansFor slots listed None result = PlansNothing result
PlansFor slots listed (Some one) result = PlansOne slots listed one result

-- A plan for a name before a time: that of the latest listed dump; where there is none, it is refused.
abbrev pub Plans : List Slot → List DumpRecordFields → List ℕ → Option ℕ → Result ChainPlan RestoreFault → Type 0
Plans slots listed name before result = PlansFor slots listed (latest listed name before) result

-- what a plan may answer at all
abbrev pub IsPlanAnswer : Result ChainPlan RestoreFault → Type 0
IsPlanAnswer (Ok plan) = Unit {0}
IsPlanAnswer (Err faults.NoDump) = Unit {0}
IsPlanAnswer (Err (faults.MissingDump id)) = Unit {0}
IsPlanAnswer (Err (faults.MissingTape name initial)) = Unit {0}
IsPlanAnswer (Err (faults.BaseLacks number)) = ⊥
IsPlanAnswer (Err (faults.BadOnTape tape place)) = ⊥
IsPlanAnswer (Err faults.TooLarge) = ⊥
IsPlanAnswer (Err faults.Failed) = Unit {0}
IsPlanAnswer (Err faults.Memory) = Unit {0}

-- an answer of neither the outside nor of memory
abbrev pub IsDecided : Result ChainPlan RestoreFault → Type 0
IsDecided (Ok plan) = Unit {0}
IsDecided (Err faults.NoDump) = Unit {0}
IsDecided (Err (faults.MissingDump id)) = Unit {0}
IsDecided (Err (faults.MissingTape name initial)) = Unit {0}
IsDecided (Err (faults.BaseLacks number)) = Unit {0}
IsDecided (Err (faults.BadOnTape tape place)) = Unit {0}
IsDecided (Err faults.TooLarge) = Unit {0}
IsDecided (Err faults.Failed) = ⊥
IsDecided (Err faults.Memory) = ⊥

-- ---- what it is to an archive

-- a plan's refusal as a look-up has it
abbrev pub refusal_of : RestoreFault → Option Refusal
refusal_of faults.NoDump = Some NoDump
refusal_of (faults.MissingDump id) = Some (MissingDump id)
refusal_of (faults.MissingTape name initial) = Some (MissingTape name initial)
refusal_of (faults.BaseLacks number) = None
refusal_of (faults.BadOnTape tape place) = None
refusal_of faults.TooLarge = None
refusal_of faults.Failed = None
refusal_of faults.Memory = None

-- A plan leads to the contents of the latest dump: these are what the look-up gives.
pub record LeadsTo (a : Archive) (name : List ℕ) (before : Option ℕ) (plan : ChainPlan) : Type 0 where
  pub one : VolumeDump
  pub latest_is : latest (listed_of a) name before ≡ Some one
  pub name_is : plan.name ≡ one.volume.name
  pub looked_up : LooksUp a name before (a.contents one.dump.id one.volume.name)

-- ---- inside the crate

-- the frame that an item says
abbrev pub frame_of : Option Item → Option Frame
frame_of None = None
frame_of (Some (Says f)) = Some f
frame_of (Some Filemark) = None
frame_of (Some Nothing) = None

-- a frame that is there and is so
abbrev pub is_frame : (Frame → Bool) → Option Frame → Bool
is_frame test None = false
is_frame test (Some f) = test f

-- the number of a slot
abbrev pub number_of : Option (ℕ × Slot) → Option ℕ
number_of None = None
number_of (Some s) = Some s.0

-- what a dump needs for the fragments of a volume
abbrev pub need_at : DumpRecordFields → Frag → Need
need_at d f = record { dump = d; tape = f.tape }

-- what a dump needs for a volume, by the volume's record in it
abbrev pub needs_by : DumpRecordFields → Option VolRecordFields → List Need
needs_by d None = []
needs_by d (Some v) = map (need_at d) v.frags

-- what the dump of an id needs for a volume
abbrev pub needs_for : List ℕ → Option DumpRecordFields → List Need
needs_for name None = []
needs_for name (Some d) = needs_by d (volume_of d name)

-- what the dump of an id needs for a volume
abbrev pub needs_in : List DumpRecordFields → List ℕ → ℕ → List Need
needs_in listed name id = needs_for name (record_of listed id)

-- what locating one need more makes of the tapes so far
abbrev pub LocatesNext : List Slot → Need → Bool → List TapeNeed → List TapeNeed → Type 0
LocatesNext slots n true old new = (t : TapeNeed) × (located slots n ≡ Some t) × (new ≡ old ++ t ∷ [])
LocatesNext slots n false old new = located slots n ≡ None

-- the tapes of all needs, or the first that is missing
abbrev pub Locates : List Slot → List Need → Found → Type 0
Locates slots all (All tapes) = map (located slots) all ≡ map Some tapes
Locates slots all (Missing name initial) = IsFirstMissing slots all name initial

-- the plan, where the tapes of all needs are here; else the first tape that isn't
abbrev pub answered : Found → List ℕ → List ℕ → Result ChainPlan RestoreFault
answered (All tapes) name dumps = Ok (record { name = name; dumps = dumps; tapes = tapes })
answered (Missing missing initial) name dumps = Err (faults.MissingTape missing initial)

-- what a plan of this chain answers
abbrev pub AnswersChain : List Slot → List DumpRecordFields → List ℕ → List ℕ → Result ChainPlan RestoreFault → Type 0
AnswersChain slots listed name dumps (Ok plan) = (plan.name ≡ name) × (plan.dumps ≡ dumps) × (map (located slots) (needs listed dumps name) ≡ map Some plan.tapes)
AnswersChain slots listed name dumps (Err faults.NoDump) = ⊥
AnswersChain slots listed name dumps (Err (faults.MissingDump id)) = ⊥
AnswersChain slots listed name dumps (Err (faults.MissingTape missing initial)) = IsFirstMissing slots (needs listed dumps name) missing initial
AnswersChain slots listed name dumps (Err (faults.BaseLacks number)) = ⊥
AnswersChain slots listed name dumps (Err (faults.BadOnTape tape place)) = ⊥
AnswersChain slots listed name dumps (Err faults.TooLarge) = ⊥
AnswersChain slots listed name dumps (Err faults.Failed) = Unit {0}
AnswersChain slots listed name dumps (Err faults.Memory) = Unit {0}

-- a fault of a look-up, as a restore is failed by it
abbrev pub restore_fault : LookFault → RestoreFault
restore_fault look_faults.Failed = faults.Failed
restore_fault look_faults.Memory = faults.Memory
