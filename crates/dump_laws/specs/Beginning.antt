-- What a begin of a dump asks, and what it makes of an archive.
use Rattle.std.specs.Prelude.{◌≡◌, ◌⊎◌, ◌<◌, ◌≤◌, ℕ, Option, Some, None, List, [], ◌++◌, slice_get, Contains}
use Rattle.tape_frames.specs.declared.frame.Frame.TheVariants as frames
use Rattle.tape_frames.specs.declared.dump_head.DumpHeadFields.{DumpHeadFields}
use Rattle.budb_changes.specs.declared.records.DumpRecordFields.{DumpRecordFields}
use Rattle.budb_fold.specs.Database.{is_initial, without}
use Rattle.tape_text.specs.Items.{Says}
use Rattle.tape_text.specs.Texts.{Tape}
use Rattle.tape_scan.specs.Slots.{Slot}
use Rattle.archive_model.specs.Archives.{Archive, listed_of}
use Rattle.archive_model.specs.Turns.{with_log, remaining}
use Rattle.tape_frames.specs.TapeNames.{numbered}
use Rattle.tape_choice.specs.declared.choosing.Chosen.{Chosen}
use Rattle.tape_choice.specs.Choice.{chosen, choice_of}
use Rattle.dump_job.specs.declared.order.DumpOrder.{DumpOrder}
use Rattle.dump_job.specs.declared.first_tapes.FirstTape.{FirstTape}
use Rattle.dump_job.specs.Beginning.{wanting_of, taken_tape, begin_changes}
use Rattle.dump_laws.specs.Made.{Made}

-- Every dump id on a tape is at most the greatest id that was begun or recorded, or below the time.
abbrev pub HeadsAreBelow : List Slot → ℕ → ℕ → Type 0
HeadsAreBelow slots time greatest =
    (k : ℕ) (s : Slot) (n : ℕ) (h : DumpHeadFields) → slice_get slots k ≡ Some s → slice_get s.items n ≡ Some (Says (frames.DumpHead h)) → (h.id ≤ greatest) ⊎ (h.id < time)

-- There is no parent, or it is a listed dump.
abbrev pub HasParent : List DumpRecordFields → ℕ → Type 0
HasParent listed parent = (parent ≡ 0) ⊎ ((p : DumpRecordFields) × Contains listed p × (p.id ≡ parent))

-- a tape of a dump set that is taken, by the choice of tapes
pub record TakenBy (o : DumpOrder) (listed : List DumpRecordFields) (slots : List Slot) (t : FirstTape) : Type 0 where
  pub initial : ℕ
  pub base : List ℕ
  pub number : ℕ
  pub one : Chosen
  pub choice : choice_of listed (chosen listed (wanting_of o listed initial (numbered base number)) o.port slots) ≡ Some one
  pub is : taken_tape initial base number one ≡ t

-- the archive behind the commit of a begin, with what is taken
abbrev pub begun_archive : ℕ → Option ℕ → Archive → Archive
begun_archive id take a = with_log a (a.log ++ begin_changes id take)

-- Its dumps: of the dumps that are forgotten those that are whole stay dumps.
abbrev pub begun_records : Option ℕ → Archive → List DumpRecordFields → List DumpRecordFields
begun_records None a records = records
begun_records (Some initial) a records = remaining (without (is_initial initial) (listed_of a)) a.slots records

-- nothing was put yet
abbrev pub nothing_made : Tape → Made
nothing_made front = record { ended = []; front = front; fragments = []; pieces = []; clones = [] }
