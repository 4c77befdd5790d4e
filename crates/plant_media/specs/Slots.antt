-- The tapes in the slots, of which one may be loaded.
use Rattle.std.specs.Prelude.{ℕ, ◌+◌, ◌==◌, if◌then◌else◌, Bool, List, length, Option, Some, None}
use Rattle.media_core.specs.Media.{Image}
use Rattle.crash_log.specs.CrashLog.{log_bytes, settled_of}
use Rattle.crash_log.specs.declared.log.CrashLog.{CrashLog}
use Rattle.plant_core.specs.Records.{Record}
use Rattle.plant_core.specs.Crashes.{State}
use Rattle.plant_media.specs.Stock.{tape_of}
use Rattle.plant_media.specs.Loaded.{tape_in}
use Rattle.plant_media.specs.declared.tape.Tape.{Tape}

-- the slot that is loaded
abbrev pub slot_in : Option Tape → Option ℕ
slot_in None = None
slot_in (Some tape) = Some tape.slot

-- how many records the loaded tape has; where none is loaded it is 0
abbrev pub records_in : Option Tape → ℕ
records_in None = 0
records_in (Some tape) = tape.records

-- the tape in a slot: the loaded one as it is read, with what was put; any other one as its file stands
abbrev pub tape_at : Option Tape → Image → ℕ → List Record
tape_at None image k = tape_of (image.file (k + 1))
tape_at (Some tape) image k = if k == tape.slot then tape_in tape image else tape_of (image.file (k + 1))

-- how many records of each tape are settled: all of one that isn't loaded
abbrev pub settled_at : Option Tape → Image → ℕ → ℕ
settled_at None image k = length (tape_of (image.file (k + 1)))
settled_at (Some tape) image k = if k == tape.slot then tape.settled else length (tape_of (image.file (k + 1)))

unfoldable pub settled_in : Option Tape → Image → ℕ → ℕ
settled_in tape image = settled_at tape image

-- what reads give, and what is settled
unfoldable pub shown : CrashLog → Option Tape → Image → State
shown journal tape image = record {
  log = log_bytes journal (image.file 0);
  tape = tape_at tape image;
  told = image.told;
  log_settled = settled_of journal;
  settled = settled_in tape image;
}

-- slot k is here where file k + 1 is
unfoldable pub slots_here : (ℕ → Bool) → ℕ → Bool
slots_here here k = here (k + 1)
