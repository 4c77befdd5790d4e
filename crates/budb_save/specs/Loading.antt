-- WHAT READING A SAVED DATABASE BACK ANSWERS.
use Rattle.std.specs.Prelude.{◌≡◌, ◌⊎◌, ℕ, ◌+◌, ◌/◌, ◌<◌, ◌≤◌, nat_lt, if◌then◌else◌, map, Option, Some, None, Result, Ok, Err, List, [], ◌∷◌, ◌++◌, length, Bool}
use Rattle.bk_text.specs.Places.{FailsAt}
use Rattle.plant_core.specs.declared.plant.Plant.{Ghosts as Plant}
use Rattle.plant_core.specs.Effects.{Effect, commits, settles, putting_away}
use Rattle.plant_core.specs.Records.{Record}
use Rattle.plant_effects.specs.Runs.{state_of, loaded_of, Done, Leaves}
use Rattle.budb_changes.specs.declared.change.Change.{Change}
use Rattle.budb_changes.specs.Bytes.{encoded}
use Rattle.budb_changes.specs.Forms.{AreChanges, IsLog}
use Rattle.budb_fold.specs.declared.database.Database.{Database}
use Rattle.budb_fold.specs.Database.{after_from}
use Rattle.budb.specs.Views.{BudbView}
use Rattle.budb.specs.Kept.{Keeps}
use Rattle.tape_config.specs.declared.port.PortFields.{PortFields}
use Rattle.tape_scan.specs.Slots.{Slot}
use Rattle.tape_scan.specs.Looking.{HasSlots, LeavesLoads}
use Rattle.budb_save.specs.declared.choosing.Picked.{Picked}
use Rattle.budb_save.specs.declared.fault.LoadFault.{LoadFault}
use Rattle.budb_save.specs.declared.fault.LoadFault.TheVariants.{InUse, NoSave, BadSave, LogFull, Failed, Memory}
use Rattle.budb_save.specs.Saves.{room, HasSave, IsWrongAt, IsWanting}
use Rattle.budb_save.specs.Saving.{load_pick}
use Rattle.budb_save.specs.Back.{IsUnused, is_unused}
use Rattle.budb_save.specs.ReadBack.{read_back}

-- ---- a tape that has a save, and one that has none

-- a tape has a save, and its bytes are those of these changes
pub record SavesChanges (tape : List Record) (changes : List Change) : Type 0 where
  pub form : AreChanges changes
  pub saved : HasSave tape (encoded changes)

-- The place of a byte that is bad: its data block, behind the label, the mark and the head; where the bytes are a proper front of a
-- list of changes, the last record.
abbrev pub IsPlaceOf : List Record → List ℕ → ℕ → ℕ → Type 0
IsPlaceOf tape bytes at place = ((at < length bytes) × (place ≡ 3 + at / room)) ⊎ ((at ≡ length bytes) × (place + 1 ≡ length tape))

-- a tape has a save whose bytes are no list of changes
pub record HasBadByte (tape : List Record) (place : ℕ) : Type 0 where
  pub bytes : List ℕ
  pub at : ℕ
  pub saved : HasSave tape bytes
  pub fails : FailsAt IsLog bytes at
  pub is : IsPlaceOf tape bytes at place

-- THE PLACE OF A BAD SAVE: the first record with which no save goes on; where records are wanting, the last one; where the format is
-- whole, that of the first byte that no list of changes has there.
abbrev pub IsBadSave : List Record → ℕ → Type 0
IsBadSave tape place = IsWrongAt tape place ⊎ ((IsWanting tape × (place + 1 ≡ length tape)) ⊎ HasBadByte tape place)

-- ---- what is answered

-- of a tape that has the label of a save
abbrev pub ReadsChanges : List Record → ℕ → Result (List Change) LoadFault → Type 0
ReadsChanges tape slot (Ok changes) = SavesChanges tape changes
ReadsChanges tape slot (Err InUse) = ⊥
ReadsChanges tape slot (Err NoSave) = ⊥
ReadsChanges tape slot (Err (BadSave s place)) = (s ≡ slot) × IsBadSave tape place
ReadsChanges tape slot (Err (LogFull n)) = ⊥
ReadsChanges tape slot (Err Failed) = Unit {0}
ReadsChanges tape slot (Err Memory) = Unit {0}

-- of the tape that was picked, where one was
abbrev pub ReadsPicked : (ℕ → List Record) → Option Picked → Result (List Change) LoadFault → Type 0
ReadsPicked tape None (Ok changes) = ⊥
ReadsPicked tape None (Err InUse) = ⊥
ReadsPicked tape None (Err NoSave) = Unit {0}
ReadsPicked tape None (Err (BadSave s place)) = ⊥
ReadsPicked tape None (Err (LogFull n)) = ⊥
ReadsPicked tape None (Err Failed) = Unit {0}
ReadsPicked tape None (Err Memory) = Unit {0}
ReadsPicked tape (Some p) result = ReadsChanges (tape p.slot) p.slot result

-- WHY THE DATABASE ISN'T READ BACK: of several causes the first one here is told. The number is how many bytes the log has.
abbrev pub RefusesBack : Database → ℕ → (ℕ → List Record) → Option Picked → LoadFault → Type 0
RefusesBack db size tape pick InUse = IsUnused db → ⊥
RefusesBack db size tape pick NoSave = IsUnused db × (pick ≡ None)
RefusesBack db size tape pick (BadSave s place) = IsUnused db × ((p : Picked) × (pick ≡ Some p) × (s ≡ p.slot) × IsBadSave (tape s) place)
RefusesBack db size tape pick (LogFull n) =
    IsUnused db × ((p : Picked) × (changes : List Change) × (pick ≡ Some p) × SavesChanges (tape p.slot) changes × (268435456 < n) × (n ≡ size + length (encoded changes)))
RefusesBack db size tape pick Failed = Unit {0}
RefusesBack db size tape pick Memory = Unit {0}

-- the tape that is picked is that of this slot, and it saves these changes
abbrev pub IsSavedOn : {D : Type 0} → Plant D → PortFields → D → ℕ → List Change → Type 0
IsSavedOn P port plant slot changes =
    P.tells → (slots : List Slot) → HasSlots P slots plant → (p : Picked) × (load_pick port slots ≡ Some p) × (p.slot ≡ slot) × SavesChanges ((state_of P plant).tape slot) changes

-- The saved changes became one commit on a database that wasn't in use, whose listed dumps are counted, and the log fits its limit. The
-- tape was loaded, and no more was done.
pub record LoadsBack {D : Type 0} (P : Plant D) (port : PortFields) (old new : D) (was now : BudbView) (count : ℕ) : Type 0 where
  pub slot : ℕ
  pub changes : List Change
  pub unused : IsUnused was.database
  pub saved : IsSavedOn P port old slot changes
  pub form : AreChanges changes
  pub made : now.database ≡ after_from changes was.database
  pub counted : count ≡ length now.database.listed
  pub keeps : P.tells → (log : List Change) → Keeps log (state_of P old).log was → Keeps (log ++ changes) (state_of P new).log now
  pub done : Done P (putting_away (loaded_of P old) slot ++ commits (encoded changes) ∷ []) old new
  pub size : (P.view new).log_size ≡ (P.view old).log_size + length (encoded changes)
  pub within : (P.view new).log_size ≤ 268435456

-- a commit of the saved changes, in part or whole
pub record LeavesCommit {D : Type 0} (P : Plant D) (port : PortFields) (old new : D) : Type 0 where
  pub slot : ℕ
  pub changes : List Change
  pub saved : IsSavedOn P port old slot changes
  pub leaves : Leaves P (putting_away (loaded_of P old) slot ++ commits (encoded changes) ∷ []) old new

-- Whatever is answered: a tape was loaded at most, or the saved changes were committed, in part or whole.
abbrev pub LeavesBack : {D : Type 0} → Plant D → PortFields → D → D → Type 0
LeavesBack P port old new = LeavesLoads P old new ⊎ LeavesCommit P port old new

-- ---- the answer and the effects as functions of the database, how many bytes the log has, the tapes, and the slot that is picked

-- so many bytes are too many for a log
abbrev pub is_full : ℕ → Bool
is_full size = nat_lt 268435456 size

-- by what the tape of a slot has
abbrev pub answer_from : Database → ℕ → ℕ → Result (List Change) ℕ → Result ℕ LoadFault
answer_from db size slot (Err place) = Err (BadSave slot place)
answer_from db size slot (Ok changes) = if is_full (size + length (encoded changes)) then Err (LogFull (size + length (encoded changes))) else Ok (length (after_from changes db).listed)

-- by the tape that is picked, where one is
abbrev pub answer_on : Database → ℕ → (ℕ → List Record) → Option Picked → Result ℕ LoadFault
answer_on db size tape None = Err NoSave
answer_on db size tape (Some p) = answer_from db size p.slot (read_back (tape p.slot))

-- THE ANSWER: how many dumps are listed then, or why the database isn't read back.
abbrev pub load_answer : Database → ℕ → (ℕ → List Record) → Option Picked → Result ℕ LoadFault
load_answer db size tape pick = if is_unused db then answer_on db size tape pick else Err InUse

-- the changes are one commit, where the log has room for them
abbrev pub commit_from : ℕ → Result (List Change) ℕ → List Effect
commit_from size (Err place) = []
commit_from size (Ok changes) = if is_full (size + length (encoded changes)) then [] else commits (encoded changes) ∷ []

-- that commit by the tape that is picked; no effect where none is
abbrev pub commit_on : ℕ → (ℕ → List Record) → Option Picked → List Effect
commit_on size tape None = []
commit_on size tape (Some p) = commit_from size (read_back (tape p.slot))

-- What is done, besides putting loaded tapes away.
abbrev pub load_effects : Database → ℕ → (ℕ → List Record) → Option Picked → List Effect
load_effects db size tape pick = if is_unused db then commit_on size tape pick else []

-- tapes were put away, and then these effects were done
pub record DoneAway {D : Type 0} (P : Plant D) (effects : List Effect) (old new : D) : Type 0 where
  pub away : List ℕ
  pub done : Done P (map settles away ++ effects) old new

-- the same, in part or whole
pub record LeavesAway {D : Type 0} (P : Plant D) (effects : List Effect) (old new : D) : Type 0 where
  pub away : List ℕ
  pub leaves : Leaves P (map settles away ++ effects) old new

-- this holds unless the outside refused or memory ran out
abbrev pub UnlessLoadStopped : Result ℕ LoadFault → Type 0 → Type 0
UnlessLoadStopped (Ok count) holds = holds
UnlessLoadStopped (Err InUse) holds = holds
UnlessLoadStopped (Err NoSave) holds = holds
UnlessLoadStopped (Err (BadSave s place)) holds = holds
UnlessLoadStopped (Err (LogFull n)) holds = holds
UnlessLoadStopped (Err Failed) holds = Unit {0}
UnlessLoadStopped (Err Memory) holds = Unit {0}

-- ---- inside the crate

-- a tape was loaded that saves these changes
pub record FindsChanges {D : Type 0} (P : Plant D) (port : PortFields) (old new : D) (changes : List Change) : Type 0 where
  pub slot : ℕ
  pub saved : IsSavedOn P port old slot changes
  pub form : AreChanges changes
  pub done : Done P (putting_away (loaded_of P old) slot) old new
  pub leaves : Leaves P (putting_away (loaded_of P old) slot) old new
  pub log_size : (P.view new).log_size ≡ (P.view old).log_size

-- an answer of a commit
abbrev pub CommitsBack : ℕ → List Change → LoadFault → Type 0
CommitsBack size changes InUse = ⊥
CommitsBack size changes NoSave = ⊥
CommitsBack size changes (BadSave s place) = ⊥
CommitsBack size changes (LogFull n) = (268435456 < n) × (n ≡ size + length (encoded changes))
CommitsBack size changes Failed = Unit {0}
CommitsBack size changes Memory = Unit {0}
