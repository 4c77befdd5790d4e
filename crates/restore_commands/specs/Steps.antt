-- The steps of a restore. These words stand inside this crate.
use Rattle.std.specs.Prelude.{◌≡◌, ℕ, ◌-◌, List, [], ◌∷◌, ◌++◌, length, slice_get, Bool, true, false, if◌then◌else◌, Option, None, Result, Ok, Err}
use Rattle.std.specs.List.{flat_map}
use Rattle.std.specs.Option.{unwrap_or}
use Rattle.cell_core.specs.declared.fault.CellFault.{CellFault}
use Rattle.cell_core.specs.declared.stored.Stored.{Stored}
use Rattle.archive_model.specs.Archives.{Archive, Refusal}
use Rattle.restore_chain.specs.declared.chain_plan.TapeNeed.{TapeNeed}
use Rattle.restore_chain.specs.declared.chain_plan.ChainPlan.{ChainPlan}
use Rattle.restore_chain.specs.declared.fault.RestoreFault.{RestoreFault}
use Rattle.restore_chain.specs.declared.fault.RestoreFault.TheVariants as faults
use Rattle.restore_chain.specs.Answers.{looked_up}
use Rattle.mount_plan.specs.declared.fault.Played.{Played}
use Rattle.mount_plan.specs.declared.fault.Played.TheVariants as played
use Rattle.backup_replies.specs.declared.refusals.Refusal.TheVariants as refusals
use Rattle.backup_replies.specs.Texts.{refused_word, refused_number, refused_at}
use Rattle.backup_replies.specs.Restores.{restored_line, would_restore_line, need_line}
use Rattle.restore_commands.specs.declared.told.Told.{Told}
use Rattle.restore_commands.specs.declared.told.Told.TheVariants.{Restored, Refused}
use Rattle.backup_words.specs.declared.command.Wanted.{Wanted}
use Rattle.restore_commands.specs.Answers.{Manner, VolumeAnswer, RestoreAnswer, look_up_refusal, target_refusal, last_cell, all_answer}

-- ---- what is told by a plan

-- the dump that a chain ends with
abbrev pub last_id : List ℕ → ℕ
last_id dumps = unwrap_or (slice_get dumps (length dumps - 1)) 0

-- the line of a tape that is needed
abbrev pub tape_line : TapeNeed → List ℕ
tape_line tape = need_line tape.name tape.initial

-- what is told of a volume that a plan restores; of a trial its tapes too
abbrev pub planned_lines : Bool → List ℕ → ChainPlan → List ℕ
planned_lines is_trial target plan =
    if is_trial then would_restore_line target (last_id plan.dumps) (length plan.dumps) ++ flat_map tape_line plan.tapes
    else restored_line target (last_id plan.dumps) (length plan.dumps)

-- the line of a refusal by the archive; a stop has none
abbrev pub fault_line : List ℕ → List ℕ → RestoreFault → List ℕ
fault_line name target faults.NoDump = refused_word refusals.NoDump name
fault_line name target (faults.MissingDump id) = refused_number refusals.MissingDump id
fault_line name target (faults.MissingTape tape initial) = refused_at refusals.MissingTape tape initial
fault_line name target (faults.BaseLacks number) = refused_at refusals.BaseLacks name number
fault_line name target (faults.BadOnTape tape place) = refused_at refusals.BadOnTape tape place
fault_line name target faults.TooLarge = refused_word refusals.TooLarge target
fault_line name target faults.Failed = []
fault_line name target faults.Memory = []

-- ---- what is told by the cell

-- the volume is restored with these lines, or refused by the fault of the cell
abbrev pub told_by : List ℕ → List ℕ → Result (Unit {0}) CellFault → Told
told_by target lines (Ok done) = Restored lines
told_by target lines (Err fault) = Refused (target_refusal target fault)

-- the list that is due of a trial is the one before
abbrev pub tried : Bool → List Stored → Result (List Stored) CellFault → Result (List Stored) CellFault
tried true old (Ok cell) = Ok old
tried true old (Err fault) = Err fault
tried false old due = due

-- this is told of the volume, and the cell is left so
pub record IsToldSo (answer : VolumeAnswer) (told : Told) (old new : List Stored) : Type 0 where
  pub told_is : told ≡ answer.told
  pub list : new ≡ last_cell old answer.cells

-- ---- of several volumes

-- lines and lists in front of those of an answer
abbrev pub in_front : List ℕ → List (List Stored) → RestoreAnswer → RestoreAnswer
in_front lines cells rest = record { reply = lines ++ rest.reply; cells = cells ++ rest.cells }

-- Some of them were restored, or refused, and these are left: these lines were told, and the cell is left so; what is due of all is that in
-- front of what is due of those that are left.
pub record SoFar (a : Archive) (manner : Manner) (choices : List Wanted) (old : List Stored) (rest : List Wanted) (lines : List ℕ) (now : List Stored) : Type 0 where
  pub cells : List (List Stored)
  pub list : now ≡ last_cell old cells
  pub due : all_answer a old manner choices ≡ in_front lines cells (all_answer a now manner rest)

-- ---- of volumes that were played together

-- a volume is wanted as its latest dump has it
abbrev pub IsLatest : Wanted → Type 0
IsLatest wanted = wanted.before ≡ None

-- the archive has this volume, or refuses it so
abbrev pub IsFound : Archive → Wanted → Played → Type 0
IsFound a wanted (played.Volume volume) = looked_up a wanted.name wanted.before ≡ Ok volume
IsFound a wanted (played.Refused fault) =
    (refusal : Refusal) × (looked_up a wanted.name wanted.before ≡ Err refusal) × ((target : List ℕ) → fault_line wanted.name target fault ≡ look_up_refusal wanted.name target refusal)

-- one for each that is wanted, in order
abbrev pub AreFound : Archive → List Wanted → List Played → Type 0
AreFound a [] [] = Unit {0}
AreFound a (wanted ∷ batch) (p ∷ ps) = IsFound a wanted p × AreFound a batch ps
AreFound a [] (p ∷ ps) = ⊥
AreFound a (wanted ∷ batch) [] = ⊥

-- Volumes were restored, or refused, except these that are left: lines were told behind others, and the cell is left so; what is due of all of
-- them and of any behind them is that in front of what is due of those that are left and of those behind.
pub record ArePut (a : Archive) (manner : Manner) (batch : List Wanted) (old : List Stored) (rest : List Wanted) (lines more : List ℕ) (new : List Stored) : Type 0 where
  pub told : List ℕ
  pub more_is : more ≡ lines ++ told
  pub so_far : (others : List Wanted) → SoFar a manner (batch ++ others) old (rest ++ others) told new
