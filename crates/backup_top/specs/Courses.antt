-- What a run of a script finds, and what it leaves.
use Rattle.std.specs.Prelude.{◌≡◌, ◌≢◌, ◌⊎◌, ℕ, ◌+◌, ◌-◌, ◌<◌, ◌≤◌, List, [], ◌∷◌, ◌++◌, length, take, Bool, true, false, IsTrue, Option, Some, None, Ok, Err}
use Rattle.std.specs.Str.Lines.{lines}
use Rattle.bk_text.specs.Places.{FailsAt}
use Rattle.crash_moments.specs.Moments.{Moments, Stepped, LeavesSince, Rose}
use Rattle.crash_moments.specs.Telling.{IsFront}
use Rattle.media_core.specs.Media.{Image}
use Rattle.plant_core.specs.Crashes.{State, settled_part}
use Rattle.plant_core.specs.Effects.{Effect, tells, come, told_by, Joint}
use Rattle.plant_core.specs.Stock.{Stock}
use Rattle.plant_media.specs.Stock.{stock_of}
use Rattle.plant_media.specs.Slots.{slots_here}
use Rattle.cell_core.specs.declared.stored.Stored.{Stored}
use Rattle.tape_config.specs.Configs.{Settings, config_of}
use Rattle.tape_config.specs.declared.fault.ConfigFault.{ConfigFault}
use Rattle.budb_changes.specs.declared.change.Change.{Change}
use Rattle.budb_changes.specs.Bytes.{encoded}
use Rattle.budb_changes.specs.Forms.{AreChanges, IsLog}
use Rattle.backup_replies.specs.Texts.{has_refusal}
use Rattle.backup_session.specs.Worlds.{World, Contents}
use Rattle.backup_session.specs.Opening.{opened}
use Rattle.backup_script.specs.Lines.{ended, has_quit, most_script}
use Rattle.backup_script.specs.Scripts.{Outcome, script, Stage, IsStage}
use Rattle.backup_script.specs.Held.{IsHeldThroughout}
use Rattle.backup_script.specs.Running.{Took, TookAll, TookToQuit, TookTooMany, TookToFault, AreBegun}
use Rattle.dump_forms.specs.Journals.{IsJournalAfter}
use Rattle.session_archives.specs.Held.{HoldsWorld, HoldsImage, contents_on, EachKeepsListed, RepliesSettle}
use Rattle.session_archives.specs.Ready.{IsFitWorld, RestoresApartThroughout, FitsBackThroughout, at_first, IsFitFor, AreVolumesFor}
use Rattle.backup_top.specs.Answers.{config_status}
use Rattle.backup_top.specs.declared.status.Status.{Status}
use Rattle.backup_top.specs.declared.status.Status.TheVariants.{Done, SomeRefused, Usage, ReadFault, MediaFault, CellFault, Memory, BadConfig, BadLog, OutputFault, ScriptTooLong}

-- ---- at the entry

-- the journal is a list of changes
pub record Journal (stock : Stock) : Type 0 where
  pub log : List Change
  pub form : AreChanges log
  pub is : stock.log ≡ Some (encoded log)

-- the configuration is of the form, and the journal is a list of changes
pub record Entry (config : List ℕ) (stock : Stock) : Type 0 where
  pub settings : Settings
  pub says : config_of config ≡ Ok settings
  pub journal : Journal stock

-- the configuration is refused at this line
pub record IsRefusedAt (config : List ℕ) (line : ℕ) : Type 0 where
  pub fault : ConfigFault
  pub says : config_of config ≡ Err fault
  pub line_is : config_status fault ≡ BadConfig line

-- Where a log stops being a list of changes: a damaged journal at its first byte.
abbrev pub IsBadLog : Option (List ℕ) → ℕ → Type 0
IsBadLog None at = at ≡ 0
IsBadLog (Some bytes) at = FailsAt IsLog bytes at

-- a log, and tapes, of which all is settled
abbrev pub at_rest : List ℕ → Stock → State
at_rest log stock = record { log = log; tape = stock.tape; told = stock.told; log_settled = length log; settled = λ k. length (stock.tape k) }

-- The world that a run finds: the configuration, the changes of the journal, the cell, the contents of the dumps, and what stands on the
-- media. Of so many files the first is the journal, and each other one a slot.
abbrev pub world_at : Settings → ℕ → (ℕ → Bool) → List Change → List Stored → Contents → Stock → World
world_at config files present log cell contents stock = opened (record { config = config; slots = files - 1; present = slots_here present }) log cell contents (at_rest (encoded log) stock)

-- ---- a course: a run of a script from its entry to its exit

-- The world at the entry; the moments of the clock and the bytes of the source, at the entry and at the exit; what stands on the media at
-- both; and the cell at the exit.
pub record Course : Type 0 where
  pub world : World
  pub moments : List ℕ
  pub left : List ℕ
  pub input : List ℕ
  pub rest : List ℕ
  pub before : Stock
  pub after : Stock
  pub cell : List Stored

-- that of these media, this cell, this clock and this source, at the entry and at the exit, whatever contents the dumps have
abbrev pub course : {D : Type 0} → (D → Image) → (D → ℕ) → (D → ℕ → Bool) → Settings → List Change → Contents → D → D → List Stored → List Stored → List ℕ → List ℕ → List ℕ → List ℕ → Course
course seen count present config log contents old new cell_old cell_new moments left input rest = record {
  world = world_at config (count old) (present old) log cell_old contents (stock_of (seen old));
  moments = moments;
  left = left;
  input = input;
  rest = rest;
  before = stock_of (seen old);
  after = stock_of (seen new);
  cell = cell_new;
}

-- the same, of what is at the entry
abbrev pub course_of : {D : Type 0} {config : List ℕ} (seen : D → Image) (count : D → ℕ) (present : D → ℕ → Bool) → Contents → (old : D) → Entry config (stock_of (seen old)) → D → List Stored → List Stored → List ℕ → List ℕ → List ℕ → List ℕ → Course
course_of seen count present contents old entry new cell_old cell_new moments left input rest = course seen count present entry.settings entry.journal.log contents old new cell_old cell_new moments left input rest

-- each of its commands that asks the archive finds media that hold it; so it is of every script without such a command
abbrev pub FindsHeld : Course → Type 0
FindsHeld c = IsHeldThroughout c.world c.moments (lines c.input)

-- A script that dumps finds a world that is fit for dumps at its first command, and what one reads back of a saved database fits the media; so
-- it is of every script that does neither.
abbrev pub FindsFit : Course → Type 0
FindsFit c = IsFitFor c.world c.moments (lines c.input)

-- and one in which what dumps have of volumes are volumes
abbrev pub FindsVolumes : Course → Type 0
FindsVolumes c = AreVolumesFor c.world (lines c.input)

-- what the dumps have behind so many of its effects
abbrev pub contents_in : Course → ℕ → Contents
contents_in c count = contents_on c.world c.moments (lines c.input) count

-- what comes of its script
abbrev pub outcome : Course → Outcome
outcome c = script c.world c.moments (lines c.input)

-- The archive behind a script: the world that it leaves is held, and the media at the exit hold the archive of its changes and of their tapes,
-- with what the dumps have then.
pub record KeepsArchive (c : Course) (s : Outcome) : Type 0 where
  pub world : HoldsWorld s.world
  pub media : HoldsImage c.world s.world.contents s.effects c.after

-- What is left where these lines were run, and this came of them. The journal and the tapes are those of the entry with these effects, so far
-- as they are settled. The tapes in slots that aren't here are those of the entry. Where the media held the archive at the entry, and a script
-- that dumps found a world that is fit for it, and one that reads a saved database back one that fits the media, they hold it at the exit. And
-- a world that was fit at the first command is fit again, where no volume was restored under a name that ends in `.backup`, and what was read
-- back fits the media.
pub record Leaves (c : Course) (these : List (List ℕ)) (s : Outcome) : Type 0 where
  pub told : c.after.told ≡ c.before.told ++ told_by s.effects
  pub archive : c.after ≡ settled_part (come s.effects c.world.state)
  pub absent : (k : ℕ) → (IsTrue (c.world.setting.present k) → ⊥) → c.after.tape k ≡ c.before.tape k
  pub journal : c.after.log ≡ Some (encoded s.world.log)
  pub form : AreChanges s.world.log
  pub cell : c.cell ≡ s.world.cell
  pub clock : c.left ≡ s.moments
  pub kept : HoldsWorld c.world → IsFitFor c.world c.moments these → KeepsArchive c s
  pub fit : HoldsWorld c.world → IsFitWorld (at_first c.world c.moments these) → RestoresApartThroughout c.world c.moments these → FitsBackThroughout c.world c.moments these → IsFitWorld s.world

-- cut short by a read or the limit: the lines that were ended were run
pub record LeavesShort (c : Course) : Type 0 where
  pub took : Took c.input c.rest
  pub leaves : Leaves c (lines (ended took.taken)) (script c.world c.moments (lines (ended took.taken)))

-- WHAT A RUN HAS DONE, BY ITS STATUS. Of a run that a fault or want of memory has ended, `EndsAt` says what is left.
abbrev pub Runs : Course → Status → Type 0
Runs c Done = Leaves c (lines c.input) (outcome c) × (has_refusal (told_by (outcome c).effects) ≡ false)
Runs c SomeRefused = Leaves c (lines c.input) (outcome c) × (has_refusal (told_by (outcome c).effects) ≡ true)
Runs c ReadFault = LeavesShort c
Runs c ScriptTooLong = LeavesShort c
Runs c MediaFault = Unit {0}
Runs c CellFault = Unit {0}
Runs c OutputFault = Unit {0}
Runs c Memory = Unit {0}
Runs c Usage = ⊥
Runs c (BadConfig line) = ⊥
Runs c (BadLog at) = ⊥

-- What was told of a script that was run to its end, whatever stood on the media: some line of it begins with `refused`, or none does.
pub record HasRefusal (old new : List ℕ) (refused : Bool) : Type 0 where
  pub text : List ℕ
  pub told : new ≡ old ++ text
  pub is : has_refusal text ≡ refused

-- What was told, whatever stood on the media, by the status: of a script that was run to its end, whether a line of it begins with
-- `refused`.
abbrev pub TellsLines : List ℕ → List ℕ → Status → Type 0
TellsLines old new Done = HasRefusal old new false
TellsLines old new SomeRefused = HasRefusal old new true
TellsLines old new status = Unit {0}

-- the media have as many files, and the same of them are here
pub record SameFiles {D : Type 0} (count : D → ℕ) (present : D → ℕ → Bool) (old new : D) : Type 0 where
  pub same_count : count new ≡ count old
  pub same_present : (f : ℕ) → present new f ≡ present old f

-- a run that reaches the media doesn't end so
abbrev pub IsRunStatus : Status → Type 0
IsRunStatus Usage = ⊥
IsRunStatus (BadConfig line) = ⊥
IsRunStatus status = Unit {0}

-- the examination doesn't end so
abbrev pub IsExamineStatus : Status → Type 0
IsExamineStatus Usage = ⊥
IsExamineStatus MediaFault = ⊥
IsExamineStatus CellFault = ⊥
IsExamineStatus (BadConfig line) = ⊥
IsExamineStatus (BadLog at) = ⊥
IsExamineStatus status = Unit {0}

-- a journal that is no list of changes is refused, or the media refuse a call, or memory runs out
abbrev pub RefusesJournal : Status → Type 0
RefusesJournal (BadLog at) = Unit {0}
RefusesJournal MediaFault = Unit {0}
RefusesJournal Memory = Unit {0}
RefusesJournal status = ⊥

-- the bytes that are taken of the source, by the status: nothing behind a line `quit` is
abbrev pub TakesBy : List ℕ → List ℕ → Status → Type 0
TakesBy old new Done = TookAll old new ⊎ TookToQuit old new
TakesBy old new SomeRefused = TookAll old new ⊎ TookToQuit old new
TakesBy old new ScriptTooLong = TookTooMany old new
TakesBy old new Usage = new ≡ old
TakesBy old new (BadConfig line) = new ≡ old
TakesBy old new (BadLog at) = new ≡ old
TakesBy old new ReadFault = TookToFault old new
TakesBy old new MediaFault = TookToFault old new
TakesBy old new CellFault = TookToFault old new
TakesBy old new OutputFault = TookToFault old new
TakesBy old new Memory = TookToFault old new

-- a script within its bound: no more bytes than it may have, or a line `quit` among the first of them
abbrev pub IsWithin : List ℕ → Type 0
IsWithin input = (length input ≤ most_script) ⊎ (has_quit (lines (ended (take 16777217 input))) ≡ true)

-- all lines were run, or memory ran out
abbrev pub IsComplete : Status → Type 0
IsComplete Done = Unit {0}
IsComplete SomeRefused = Unit {0}
IsComplete Memory = Unit {0}
IsComplete status = ⊥

-- ---- images

-- What an opening finds: the journal isn't refused, whatever the place, but is a list of changes: those that the effects make of these. So
-- the database that opens is that of the journal after the effects.
pub record Reopens (log : List Change) (effects : List Effect) (found : Option (List ℕ)) : Type 0 where
  pub changes : List Change
  pub after : IsJournalAfter log effects changes
  pub form : AreChanges changes
  pub is : found ≡ Some (encoded changes)
  pub never_bad : (at : ℕ) → IsBadLog found at → ⊥

-- What a crash leaves of a course, from its entry: what the crash model leaves after the first of these effects of its script, for ONE count
-- of them. The journal isn't damaged, and is that after these effects, so that it opens again (of a script that dumps, where what dumps have of
-- volumes are volumes). A reply that was told whole is among them. Where the media held the archive at the entry, and a script that dumps finds a
-- world that is fit for it, the image holds that of its changes and of its tapes: each listed dump lies where it lay behind these effects, with the contents that it
-- had then. And none of these effects takes a tape from a dump that is listed behind it, and where a reply is told all that was put before it is
-- settled: so no crash takes a record from a command whose reply was told whole.
pub record LeftImage (c : Course) (effects : List Effect) (old new : Stock) : Type 0 where
  pub joint : Joint c.world.state effects old new
  pub events : new.log ≡ Some (come (take joint.count effects) c.world.state).log
  pub reopens : FindsVolumes c → Reopens c.world.log (take joint.count effects) new.log
  pub acknowledged : (before after : List Effect) (reply : List ℕ) → effects ≡ before ++ tells reply ∷ after → 0 < length reply
      → length c.world.state.told + length (told_by before) + length reply ≤ length new.told → length before < joint.count
  pub archive : HoldsWorld c.world → FindsFit c → HoldsImage c.world (contents_in c joint.count) (take joint.count effects) new
  pub listed : HoldsWorld c.world → FindsFit c → EachKeepsListed c.world (take joint.count effects)
  pub settled : HoldsWorld c.world → FindsFit c → RepliesSettle c.world effects

-- an image stands for the same journal, tapes and told bytes as another one
abbrev pub SameStock : Image → Image → Type 0
SameStock old new = stock_of new ≡ stock_of old

-- each image since the entry
abbrev pub LeavesImages : {D : Type 0} → Moments D Image → D → D → Course → List Effect → Type 0
LeavesImages time old new c effects = LeavesSince time old new (λ a b. LeftImage c effects (stock_of a) (stock_of b))

-- The lines that are whole at the end, by the bytes taken: all of the script, or all lines that were ended among these bytes, but for the last
-- of them at most. So a line is run as soon as it is complete.
pub record RunsLines (c : Course) (whole : List Effect) : Type 0 where
  pub took : Took c.input c.rest
  pub begun : (whole ≡ (outcome c).effects) ⊎ AreBegun c.world c.moments (lines (ended took.taken)) whole

-- The cell has the list of a stage of the script, the clock has its moments left, and no more was told than its effects tell: so the cell has
-- the changes of each command whose reply was told. All was told that the lines before the one in progress tell.
pub record CellAtStage (c : Course) : Type 0 where
  pub stage : Stage
  pub on_the_way : IsStage [] c.world c.moments (lines c.input) stage
  pub is : c.cell ≡ stage.cell
  pub clock : c.left ≡ stage.moments
  pub run : RunsLines c stage.whole
  pub told : IsFront c.after.told (c.before.told ++ told_by stage.effects)
  pub least : IsFront (c.before.told ++ told_by stage.whole) c.after.told

-- What reads give at the end: such an image, behind all effects of the lines before the one in progress.
pub record EndImage (c : Course) (stage : Stage) (old new : Stock) : Type 0 where
  pub left : LeftImage c stage.effects old new
  pub whole : length stage.whole ≤ left.joint.count

-- However a run ends, what reads give is such an image of a stage of the script, the cell has the list of this stage, and the clock has its
-- moments left. So the cell has the changes of each command whose reply was told, and so have the journal and the tapes those of each command
-- before the one in progress.
pub record EndsAt {D : Type 0} (time : Moments D Image) (seen : D → Image) (old new : D) (c : Course) : Type 0 where
  pub stage : Stage
  pub on_the_way : IsStage [] c.world c.moments (lines c.input) stage
  pub cell : c.cell ≡ stage.cell
  pub clock : c.left ≡ stage.moments
  pub run : RunsLines c stage.whole
  pub image : Stepped time old (λ a b. EndImage c stage (stock_of a) (stock_of b)) (seen new)

-- ---- causes

-- The count of a fault at a run: it has risen where the status is that fault, and is exactly as before at every other status.
pub record HasCauseAs (fault : Status) (before now : ℕ) (status : Status) : Type 0 where
  pub failed : status ≡ fault → Rose before now
  pub stays : status ≢ fault → now ≡ before
