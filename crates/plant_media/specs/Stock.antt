-- What the files of a media stand for: file 0 is the journal, file k + 1 the tape of slot k.
use Rattle.std.specs.Prelude.{◌≡◌, ◌⊎◌, ℕ, ◌+◌, Bool, true, false, List, [], ◌∷◌, Option, Some, None}
use Rattle.media_core.specs.Media.{Image}
use Rattle.crash_log.specs.Log.{log_of, is_damaged}
use Rattle.plant_core.specs.Records.{Record, bad}
use Rattle.plant_core.specs.Stock.{Stock}
use Rattle.plant_media.specs.Records.{records_of}

-- a damaged tape is one bad record, any other one the records of its log
abbrev pub tape_shown : Bool → List ℕ → List Record
tape_shown true bytes = bad ∷ []
tape_shown false bytes = records_of bytes

unfoldable pub tape_of : List ℕ → List Record
tape_of file = tape_shown (is_damaged file) (log_of file)

-- a damaged journal has no log
abbrev pub log_shown : Bool → List ℕ → Option (List ℕ)
log_shown true bytes = None
log_shown false bytes = Some bytes

unfoldable pub journal_of : List ℕ → Option (List ℕ)
journal_of file = log_shown (is_damaged file) (log_of file)

-- the stock of files and an output
abbrev pub stock_of : Image → Stock
stock_of image = record {
  log = journal_of (image.file 0);
  tape = λ k. tape_of (image.file (k + 1));
  told = image.told;
}

-- a file stands for the same tape, or for this one
abbrev pub SameTape : List ℕ → List ℕ → Type 0
SameTape old new = tape_of new ≡ tape_of old

-- a file stands for the same tape as before, or for the one with these records
abbrev pub TapeOr : List Record → List ℕ → List ℕ → Type 0
TapeOr tape old new = (tape_of new ≡ tape_of old) ⊎ (tape_of new ≡ tape)

-- a file stands for the same journal, or for this one
abbrev pub SameJournal : List ℕ → List ℕ → Type 0
SameJournal old new = journal_of new ≡ journal_of old

-- a file stands for the same journal as before, or for one with these bytes that isn't damaged
abbrev pub JournalOr : List ℕ → List ℕ → List ℕ → Type 0
JournalOr log old new = (journal_of new ≡ journal_of old) ⊎ (journal_of new ≡ Some log)
