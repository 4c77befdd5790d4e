-- HOW FAR EACH OF SEVERAL VOLUMES WAS PLAYED, as what its chain gives alone.
use Rattle.std.specs.Prelude.{◌≡◌, ℕ, ◌<◌, ◌≤◌, Bool, true, false, is_some, Option, Some, None, Result, Ok, Err, List, [], ◌∷◌, length, take, drop, get_or, All}
use Rattle.plant_core.specs.declared.plant.Plant.{Ghosts as Plant}
use Rattle.plant_effects.specs.Runs.{loaded_of}
use Rattle.vnode_model.specs.declared.volumes.VolumeFields.{VolumeFields}
use Rattle.budb_changes.specs.declared.records.DumpRecordFields.{DumpRecordFields}
use Rattle.budb_fold.specs.Lookups.{VolumeDump, record_of, latest}
use Rattle.budb_fold.specs.Chains.{IsChain, HaveParentsBelow}
use Rattle.tape_scan.specs.Slots.{Slot}
use Rattle.archive_model.specs.Holding.{holder_here, called_for}
use Rattle.archive_model.specs.Plays.{PlayFault, records_of, PlaysOver, Plays}
use Rattle.archive_model.specs.Archives.{Need, needs, is_missing}
use Rattle.restore_chain.specs.declared.fault.RestoreFault.{RestoreFault}
use Rattle.restore_chain.specs.declared.fault.RestoreFault.TheVariants as faults
use Rattle.restore_chain.specs.declared.keeping.Kept.{Kept}
use Rattle.restore_chain.specs.declared.keeping.Kept.TheVariants as kept
use Rattle.restore_chain.specs.declared.keeping.Reading.{Reading}
use Rattle.restore_chain.specs.declared.keeping.Reading.TheVariants as readings
use Rattle.restore_chain.specs.Planning.{IsFirstMissing}
use Rattle.restore_chain.specs.Restoring.{Tells}
use Rattle.restore_chain.specs.Keeping.{AllKept, IsBegun}
use Rattle.mount_plan.specs.declared.course.Missed.{Missed}
use Rattle.mount_plan.specs.declared.course.Going.{Going}
use Rattle.mount_plan.specs.declared.course.Course.{Course}
use Rattle.mount_plan.specs.declared.course.Course.TheVariants as courses
use Rattle.mount_plan.specs.declared.next.Outcome.{Outcome}
use Rattle.mount_plan.specs.declared.next.Outcome.TheVariants as outcomes
use Rattle.mount_plan.specs.declared.fault.Played.{Played}
use Rattle.mount_plan.specs.declared.fault.Played.TheVariants as played

-- ---- a chain, as far as it was played

-- the slots hold all these tapes
abbrev pub AreHere : List Slot → List Need → Type 0
AreHere slots ns = All (λ n. is_missing slots n ≡ false) ns

-- So many dumps were played: their tapes are here, and they made this volume, over which those that are left give what the chain gives.
pub record PlayedSo (slots : List Slot) (listed : List DumpRecordFields) (name ids : List ℕ) (count : ℕ) (volume : Option VolumeFields) : Type 0 where
  pub here : AreHere slots (needs listed (take count ids) name)
  pub whole : (outcome : Result VolumeFields PlayFault) → PlaysOver slots name volume (records_of listed (drop count ids)) outcome → Plays slots listed ids name outcome

-- So many dumps were passed: their tapes are here, and the chain has this fault.
pub record FaultedSo (slots : List Slot) (listed : List DumpRecordFields) (name ids : List ℕ) (count : ℕ) (fault : RestoreFault) : Type 0 where
  pub here : AreHere slots (needs listed (take count ids) name)
  pub tells : Tells (Plays slots listed ids name) (Err fault)

-- The first tape that is missing is known, or a fault is and so many dumps were passed, or so many were played.
abbrev pub IsSoFar : List Slot → List DumpRecordFields → List ℕ → List ℕ → ℕ → Option VolumeFields → Option RestoreFault → Option Missed → Type 0
IsSoFar slots listed name ids count volume fault (Some m) = IsFirstMissing slots (needs listed ids name) m.name m.initial
IsSoFar slots listed name ids count volume (Some f) None = FaultedSo slots listed name ids count f
IsSoFar slots listed name ids count volume None None = PlayedSo slots listed name ids count volume

-- The chain of a volume's dump, as far as it was played, and what is kept of its next dump.
pub record IsGoing (slots : List Slot) (listed : List DumpRecordFields) (one : VolumeDump) (g : Going) : Type 0 where
  pub name : g.name ≡ one.volume.name
  pub chain : IsChain listed one.dump.id one.volume.name (Ok g.dumps)
  pub so_far : IsSoFar slots listed g.name g.dumps g.played g.volume g.fault g.missing
  pub kept : (d : DumpRecordFields) → record_of listed (get_or g.dumps g.played 0) ≡ Some d → IsBegun slots d (is_some g.fault) (called_for d g.name) g.kept.items

-- How far a volume's dump was played: `NoDump` exactly where there is none; a dump that its chain lacks, where each
-- parent lies below its dump; or its chain, as far as it was played.
abbrev pub IsCourseFor : List Slot → List DumpRecordFields → Option VolumeDump → Course → Type 0
IsCourseFor slots listed None courses.NoDump = Unit {0}
IsCourseFor slots listed None (courses.MissingDump id) = ⊥
IsCourseFor slots listed None (courses.Going g) = ⊥
IsCourseFor slots listed (Some one) courses.NoDump = ⊥
IsCourseFor slots listed (Some one) (courses.MissingDump id) = HaveParentsBelow listed → IsChain listed one.dump.id one.volume.name (Err id)
IsCourseFor slots listed (Some one) (courses.Going g) = IsGoing slots listed one g

-- how far a name was played
abbrev pub IsCourse : List Slot → List DumpRecordFields → Option ℕ → List ℕ → Course → Type 0
IsCourse slots listed before name c = IsCourseFor slots listed (latest listed name before) c

-- how far each of the names was
abbrev pub AreCourses : List Slot → List DumpRecordFields → Option ℕ → List (List ℕ) → List Course → Type 0
AreCourses slots listed before [] [] = Unit {0}
AreCourses slots listed before (name ∷ names) (c ∷ cs) = IsCourse slots listed before name c × AreCourses slots listed before names cs
AreCourses slots listed before [] (c ∷ cs) = ⊥
AreCourses slots listed before (name ∷ names) [] = ⊥

-- ---- the fragments of the next dump

-- nothing is kept of a fragment: its tape wasn't looked for yet
abbrev pub is_unread : Kept → Bool
is_unread kept.Unread = true
is_unread (kept.Missing tape) = false
is_unread kept.Held = false
is_unread (kept.Whole pieces end) = false
is_unread (kept.Bad site) = false

-- the tape of one whose tape is missing
abbrev pub missing_tape : Kept → Option ℕ
missing_tape kept.Unread = None
missing_tape (kept.Missing tape) = Some tape
missing_tape kept.Held = None
missing_tape (kept.Whole pieces end) = None
missing_tape (kept.Bad site) = None

-- the number of the first of two missing tapes; `None` where neither is missing
abbrev pub first_of : Option ℕ → Option ℕ → Option ℕ
first_of None rest = rest
first_of (Some tape) rest = Some tape

-- that of the first one
abbrev pub first_missing : List Kept → Option ℕ
first_missing [] = None
first_missing (k ∷ ks) = first_of (missing_tape k) (first_missing ks)

-- whether a slot here holds the tape, whose tape is loaded then
abbrev pub IsHeldSo : {D : Type 0} → Plant D → List Slot → DumpRecordFields → ℕ → D → Bool → Type 0
IsHeldSo P slots d tape plant true = (x : ℕ × Slot) × (holder_here d tape slots ≡ Some x) × (loaded_of P plant ≡ Some x.0)
IsHeldSo P slots d tape plant false = holder_here d tape slots ≡ None

-- what is done with the fragments on it: behind a fault none is read
abbrev pub reading_of : Bool → Option RestoreFault → Reading
reading_of false fault = readings.Missing
reading_of true None = readings.Loaded
reading_of true (Some fault) = readings.Held

-- A chain that waits for a dump, of which each fragment is kept so far.
pub record Awaits (slots : List Slot) (listed : List DumpRecordFields) (one : VolumeDump) (d : DumpRecordFields) (id : ℕ) (g : Going) : Type 0 where
  pub name : g.name ≡ one.volume.name
  pub chain : IsChain listed one.dump.id one.volume.name (Ok g.dumps)
  pub so_far : IsSoFar slots listed g.name g.dumps g.played g.volume g.fault None
  pub none : g.missing ≡ None
  pub within : g.played < length g.dumps
  pub next : get_or g.dumps g.played 0 ≡ id
  pub record_is : record_of listed id ≡ Some d
  pub all : AllKept slots d (is_some g.fault) (called_for d g.name) g.kept.items

-- what the next dump makes over the volume so far
abbrev pub MakesNext : List Slot → List ℕ → DumpRecordFields → Option VolumeFields → Outcome → Type 0
MakesNext slots name d base (outcomes.Made volume) = PlaysOver slots name base (d ∷ []) (Ok volume)
MakesNext slots name d base (outcomes.Faulted fault) = Tells (PlaysOver slots name base (d ∷ [])) (Err fault)

-- ---- what is answered in the end

-- What is answered of a chain: its first missing tape before all, else its fault, else the volume that it made. Where
-- no tape is missing, all dumps of the chain were passed.
abbrev pub IsOutcomeOf : Going → Option RestoreFault → Option Missed → Played → Type 0
IsOutcomeOf g fault (Some m) p = p ≡ played.Refused (faults.MissingTape m.name m.initial)
IsOutcomeOf g (Some f) None p = (length g.dumps ≤ g.played) × (p ≡ played.Refused f)
IsOutcomeOf g None None p = (length g.dumps ≤ g.played) × (volume : VolumeFields) × (g.volume ≡ Some volume) × (p ≡ played.Volume volume)

-- what is answered of one volume by how far it was played: the volume, or why it isn't restored
abbrev pub IsOutcome : Course → Played → Type 0
IsOutcome courses.NoDump p = p ≡ played.Refused faults.NoDump
IsOutcome (courses.MissingDump id) p = p ≡ played.Refused (faults.MissingDump id)
IsOutcome (courses.Going g) p = IsOutcomeOf g g.fault g.missing p

-- one answer for each volume, in order
abbrev pub AreOutcomes : List Course → List Played → Type 0
AreOutcomes [] [] = Unit {0}
AreOutcomes (c ∷ cs) (p ∷ ps) = IsOutcome c p × AreOutcomes cs ps
AreOutcomes [] (p ∷ ps) = ⊥
AreOutcomes (c ∷ cs) [] = ⊥
