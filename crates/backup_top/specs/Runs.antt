-- What a run does.
use Rattle.std.specs.Prelude.{◌≡◌, ◌⊎◌, ℕ, ◌+◌, ◌<◌, ◌≤◌, List, [], ◌++◌, length, Option}
use Rattle.std.specs.Io.KnownBytes.{Appends}
use Rattle.crash_moments.specs.Moments.{Moments, Leads}
use Rattle.media_core.specs.Media.{Image}
use Rattle.dump_stream.specs.declared.input.Input.{Input}
use Rattle.dump_stream.specs.declared.input.Input.TheVariants.{Stream, Cut, Bad, Followed}
use Rattle.backup_top.specs.declared.status.Status.{Status}
use Rattle.backup_top.specs.declared.status.Status.TheVariants as statuses
use Rattle.dump_stream.specs.Inputs.{IsInput}
use Rattle.backup_top.specs.Inputs.{TookUpTo, most_input}
use Rattle.backup_top.specs.Replies.{lines_of, usage_line}
use Rattle.backup_top.specs.Tells.{ToldFront, TellsOn}

-- What an output holds has only grown, where that is known.
abbrev pub Grows : Option (List ℕ) → Option (List ℕ) → Type 0
Grows old new = (more : List ℕ) × Appends old new more

-- a stream is told whole, and any other input is refused by its one line
abbrev pub told_status : Input → Status
told_status (Stream i) = statuses.Done
told_status (Cut length) = statuses.SomeRefused
told_status (Bad at) = statuses.SomeRefused
told_status (Followed at) = statuses.SomeRefused

-- A run from its entry to its exit: the input that was left, what was told, and which lines its images were told.
pub record Passage : Type 1 where
  pub input : List ℕ
  pub rest : List ℕ
  pub before : List ℕ
  pub after : List ℕ
  pub Images : List ℕ → Type 0

-- that of a source and a media
abbrev pub passage : {S D : Type 0} → (S → List ℕ) → (D → Image) → Moments D Image → S → S → D → D → Passage
passage left seen time source source' media media' = record {
  input = left source;
  rest = left source';
  before = (seen media).told;
  after = (seen media').told;
  Images = λ lines. Leads time media media' (TellsOn lines (seen media).told);
}

-- the input was read to its end, it is this, and its lines were told
pub record ToldInput (p : Passage) (status : Status) : Type 0 where
  pub examined : Input
  pub is : IsInput p.input examined
  pub few : length p.input ≤ most_input
  pub all_read : p.rest ≡ []
  pub told : p.after ≡ p.before ++ lines_of examined
  pub images : p.Images (lines_of examined)
  pub status_is : status ≡ told_status examined

-- the input was read to its end, it is this, and a front of its lines was told
pub record ToldInPart (p : Passage) : Type 0 where
  pub examined : Input
  pub is : IsInput p.input examined
  pub few : length p.input ≤ most_input
  pub all_read : p.rest ≡ []
  pub told : ToldFront (lines_of examined) p.before p.after
  pub images : p.Images (lines_of examined)

-- nothing was told, and at most one byte more was read than an input may have
pub record ToldNothing (p : Passage) : Type 0 where
  pub taken : TookUpTo (most_input + 1) p.input p.rest
  pub told : p.after ≡ p.before
  pub images : p.Images []

-- what examine does with an input, by its status
abbrev pub Examines : Passage → Status → Type 0
Examines p statuses.Done = ToldInput p statuses.Done
Examines p statuses.SomeRefused = ToldInput p statuses.SomeRefused
Examines p statuses.Usage = ⊥
Examines p statuses.ReadFault = ToldNothing p
Examines p statuses.Memory = ToldNothing p ⊎ ToldInPart p
Examines p statuses.OutputFault = ToldInPart p
Examines p statuses.MediaFault = ⊥
Examines p statuses.CellFault = ⊥
Examines p (statuses.BadConfig line) = ⊥
Examines p (statuses.BadLog at) = ⊥
Examines p statuses.ScriptTooLong = (most_input < length p.input) × ToldNothing p

-- the usage line was told, or a front of it
abbrev pub TellsUsage : List ℕ → List ℕ → Status → Type 0
TellsUsage before after statuses.Usage = after ≡ before ++ usage_line
TellsUsage before after status = ToldFront usage_line before after

-- What a rehearsal tells, by its status: all its lines, a front of them where the output took no more, nothing where memory was refused. It
-- doesn't end otherwise.
abbrev pub TellsRehearsal : List ℕ → List ℕ → List ℕ → Status → Type 0
TellsRehearsal lines before after statuses.Done = after ≡ before ++ lines
TellsRehearsal lines before after statuses.OutputFault = ToldFront lines before after
TellsRehearsal lines before after statuses.Memory = after ≡ before
TellsRehearsal lines before after status = ⊥

-- a rehearsal ends so
abbrev pub IsRehearseStatus : Status → Type 0
IsRehearseStatus statuses.Done = Unit {0}
IsRehearseStatus statuses.OutputFault = Unit {0}
IsRehearseStatus statuses.Memory = Unit {0}
IsRehearseStatus status = ⊥
