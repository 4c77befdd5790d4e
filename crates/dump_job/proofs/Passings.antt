-- The part end, joined of the choice of the next tape and of what was done then.
use Rattle.std.proofs.Common.{◌≡◌, ℕ, ◌+◌, ◌<◌, ◌≤◌, Bool, true, false, List, [], ◌++◌, length, Option, Some, None, refl, sym, subst, arith}
use Rattle.std.specs.Prelude.{Result, Ok, Err, IsTrue, IfSome}
use Rattle.crash_moments.specs.Moments.{Rose}
use Rattle.plant_core.specs.declared.plant.Plant.{Ghosts as Plant}
use Rattle.plant_effects.specs.Runs.{Done, Leaves, SameNumbers, StaysQuiet}
use Rattle.plant_effects.proofs.Joining.{Fits}
use Rattle.tape_scan.specs.Slots.{Slot}
use Rattle.tape_writer.specs.Puts.{puts_on}
use Rattle.budb.specs.declared.fault.CommitFault.TheVariants as commit
use Rattle.budb.specs.Views.{BudbView}
use Rattle.tape_choice.specs.declared.choosing.Chosen.{Chosen}
use Rattle.tape_scan.specs.Looking.{HasSlots}
use Rattle.tape_choice.specs.Choice.{is_used}
use Rattle.dump_job.specs.declared.fault.JobFault.{JobFault}
use Rattle.dump_job.specs.declared.fault.JobFault.TheVariants.{NothingToAppend, NoTape, CapacityTooSmall, IdsSpent, LogFull, Failed, Memory}
use Rattle.dump_job.specs.declared.fields.JobFields.{JobFields}
use Rattle.dump_job.specs.Reels.{records_on, turn_of}
use Rattle.dump_job.specs.Taping.{IsFor}
use Rattle.dump_job.specs.Ending.{part_end_items}
use Rattle.dump_job.specs.Closing.{committing, made_of, Closes, Makes}
use Rattle.dump_job.specs.Passing.{next_name, next_wanting, next_choice, next_changes, closing_of, GoesBy, IsPassed, UnlessCutOff, PartEnds}
use Rattle.dump_job.proofs.Closings.{closes_memory, closes_cut_off, closes_behind, makes_failed, makes_memory, makes_behind}

unless_cut_off : (result : Result Bool JobFault) (T : Type 0) → T → UnlessCutOff result T
unless_cut_off (Ok there) T holds = holds
unless_cut_off (Err (NoTape name)) T holds = holds
unless_cut_off (Err (LogFull n)) T holds = holds
unless_cut_off (Err Failed) T holds = tt
unless_cut_off (Err Memory) T holds = tt
unless_cut_off (Err NothingToAppend) T holds = tt
unless_cut_off (Err CapacityTooSmall) T holds = tt
unless_cut_off (Err IdsSpent) T holds = tt

module _ {D : Type 0} (P : Plant D) where
  -- the choice was cut off
  pub ends_failed : (cut : Bool) (budb : BudbView) (old new : D) (j : JobFields) → Leaves P [] old new → StaysQuiet P old new
      → Rose (P.view old).faults (P.view new).faults → budb.prepared ≡ None → PartEnds P cut (Err Failed) budb budb old new j j
  ends_failed cut budb old new j left stays rose none = record {
    choice = None;
    right = tt;
    parts = tt;
    here = tt;
    first = tt;
    last = tt;
    unused = tt;
    goes = tt;
    moved = tt;
    plant = closes_cut_off P j.reel.slot (part_end_items 1 j) [] old new left stays rose;
    database = makes_failed P [] budb old new none;
  }

  pub ends_memory : (cut : Bool) (budb : BudbView) (old new : D) (j : JobFields) → Done P [] old new → Leaves P [] old new → SameNumbers P old new → StaysQuiet P old new
      → (P.view new).faults ≡ (P.view old).faults → Fits P new → budb.prepared ≡ None → PartEnds P cut (Err Memory) budb budb old new j j
  ends_memory cut budb old new j done left numbers stays same fits none = record {
    choice = None;
    right = tt;
    parts = tt;
    here = tt;
    first = tt;
    last = tt;
    unused = tt;
    goes = tt;
    moved = refl;
    plant = closes_behind P j.reel.slot (part_end_items 1 j) [] (Err commit.Memory) old new new done left numbers stays same
        (closes_memory P j.reel.slot (part_end_items 1 j) [] new done.sound fits);
    database = makes_memory P [] budb old new none;
  }

  -- a tape was chosen, or none was
  pub ends_by : (cut : Bool) (result : Result Bool JobFault) (budb after : BudbView) (old mid new : D) (j k : JobFields) (choice : Option Chosen)
      → (P.tells → (slots : List Slot) → HasSlots P slots old → next_choice budb.database.listed slots j ≡ choice)
      → IfSome choice (λ c. length j.filled + 1 ≤ 65534) → IfSome choice (λ c. IsTrue ((P.view old).present c.slot)) → IfSome choice (λ c. j.port.first ≤ c.slot) → IfSome choice (λ c. c.slot ≤ j.port.last)
      → IfSome choice (λ c. is_used (next_wanting budb.database.listed j) c.slot ≡ false)
      → Done P [] old mid → Leaves P [] old mid → SameNumbers P old mid → StaysQuiet P old mid → (P.view mid).faults ≡ (P.view old).faults
      → GoesBy (next_name j) choice result → IsPassed cut choice result j k
      → Closes P j.reel.slot (part_end_items 1 j) (next_changes choice) (closing_of result) mid new → Makes P (next_changes choice) (closing_of result) budb after mid new
      → PartEnds P cut result budb after old new j k
  ends_by cut result budb after old mid new j k choice right parts here first last unused done left numbers stays same goes moved closes makes = record {
    choice = choice;
    right = unless_cut_off result (P.tells → (slots : List Slot) → HasSlots P slots old → next_choice budb.database.listed slots j ≡ choice) right;
    parts = parts;
    here = here;
    first = first;
    last = last;
    unused = unused;
    goes = goes;
    moved = moved;
    plant = closes_behind P j.reel.slot (part_end_items 1 j) (next_changes choice) (closing_of result) old mid new done left numbers stays same closes;
    database = makes_behind P (next_changes choice) (closing_of result) budb after old mid new done makes;
  }

  -- what was left is what the choice of tapes calls for
  pub leaves_by : (j : JobFields) (choice due : Option Chosen) (result : Result Bool JobFault) (old mid new : D) → due ≡ choice
      → Done P [] old mid → Leaves P [] old mid → SameNumbers P old mid → StaysQuiet P old mid → (P.view mid).faults ≡ (P.view old).faults
      → Closes P j.reel.slot (part_end_items 1 j) (next_changes choice) (closing_of result) mid new
      → Leaves P (turn_of P j.reel.slot (puts_on j.reel.slot (part_end_items 1 j) ++ committing (made_of (P.view old).log_size (next_changes due))) old) old new
  leaves_by j choice due result old mid new is done left numbers stays same closes =
      let whole = closes_behind P j.reel.slot (part_end_items 1 j) (next_changes choice) (closing_of result) old mid new done left numbers stays same closes in
      subst (λ (c : Option Chosen). Leaves P (turn_of P j.reel.slot (puts_on j.reel.slot (part_end_items 1 j) ++ committing (made_of (P.view old).log_size (next_changes c))) old) old new) (sym is) whole.leaves

  -- the next tape is ready for its tape step
  pub ready_by : (cut : Bool) (result : Result Bool JobFault) (c : Chosen) (j k : JobFields) (mid new : D) → IsTrue ((P.view mid).present c.slot) → result ≡ Ok true
      → IsPassed cut (Some c) result j k → Closes P j.reel.slot (part_end_items 1 j) (next_changes (Some c)) (closing_of result) mid new
      → IsFor P k.reel.slot (records_on k.reel) new
  ready_by cut (Ok true) c j k mid new here is moved closes =
      let same : (P.view new).present ≡ (P.view mid).present = closes.stays.stays.present in
      subst (λ (x : JobFields). IsFor P x.reel.slot (records_on x.reel) new) (sym (moved c refl)) record {
        sound = (closes.done refl).sound;
        here = subst (λ (p : ℕ → Bool). IsTrue (p c.slot)) (sym same) here;
        records = λ tells. omega arith;
        whole = λ tells (some : 0 < 0). absurd (omega (arith, some));
      }
  ready_by cut (Ok false) c j k mid new here is moved closes = absurd (cc)
  ready_by cut (Err fault) c j k mid new here is moved closes = absurd (cc)
