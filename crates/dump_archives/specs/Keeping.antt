-- HOW A DUMP KEEPS THE ARCHIVE: on its way, and behind it.
use Rattle.std.specs.Prelude.{◌≡◌, ◌⊎◌, ◌<◌, ◌≤◌, ℕ, List, [], ◌∷◌, ◌++◌, take, Some, slice_get, Contains}
use Rattle.plant_core.specs.Effects.{Effect, come}
use Rattle.tape_frames.specs.declared.frame.Frame.TheVariants as frames
use Rattle.tape_frames.specs.declared.dump_head.DumpHeadFields.{DumpHeadFields}
use Rattle.tape_text.specs.Items.{Says}
use Rattle.tape_scan.specs.Slots.{Slot}
use Rattle.tape_answers.specs.Slots.{slots_of}
use Rattle.budb_changes.specs.declared.change.Change.{Change}
use Rattle.budb_changes.specs.declared.records.DumpRecordFields.{DumpRecordFields}
use Rattle.budb_fold.specs.Database.{after}
use Rattle.archive_model.specs.Archives.{Archive}
use Rattle.archive_model.specs.Settled.{HoldsSettled}
use Rattle.archive_model.specs.Turns.{StillHeld}
use Rattle.dump_forms.specs.Journals.{IsJournalAfter}
use Rattle.saved_archives.specs.Since.{ComesOf}
use Rattle.dump_courses.specs.Scenes.{Scene, database_in}
use Rattle.dump_commands.specs.Answers.{Contents, Answer}
use Rattle.dump_archives.specs.Asking.{archive_with, archive_in, AsksOfScene}

-- An id is known at a time: it is at most the greatest one that was begun or recorded, or past.
abbrev pub IsKnownId : ℕ → ℕ → ℕ → Type 0
IsKnownId time greatest id = (id ≤ greatest) ⊎ (id < time)

-- so is that of a dump
abbrev pub IsKnown : ℕ → ℕ → DumpRecordFields → Type 0
IsKnown time greatest d = IsKnownId time greatest d.id

-- No dump's head on these tapes has an id above this one.
abbrev pub HeadsUpTo : ℕ → List Slot → Type 0
HeadsUpTo id slots = (k : ℕ) (s : Slot) (n : ℕ) (h : DumpHeadFields) → slice_get slots k ≡ Some s → slice_get s.items n ≡ Some (Says (frames.DumpHead h)) → h.id ≤ id

-- The ids on the tapes of an archive are known to its journal: none is above the greatest one that was begun or recorded.
abbrev pub KnowsIds : Archive → Type 0
KnowsIds a = HeadsUpTo (after a.log).greatest a.slots

-- Behind some effects of an answer: their changes stand in the log, and the state holds settled the archive of these changes and of its own
-- tapes, with the contents of the answer. Its dumps have ids that are known behind the answer, so that contents under new ids may join.
-- And where the ids on tapes were known, they are known there: an id is begun in the journal before it stands on a tape.
pub record HoldsAfter (s : Scene) (a : Answer) (contents : Contents) (effects : List Effect) : Type 0 where
  pub changes : List Change
  pub journal : IsJournalAfter s.log effects changes
  pub records : List DumpRecordFields
  pub holds : HoldsSettled (come effects s.state) (archive_with s (a.contents contents) changes (come effects s.state).tape) records
  pub known : (d : DumpRecordFields) → Contains records d → IsKnown a.time (after a.log).greatest d
  pub ids : KnowsIds (archive_in s contents) → KnowsIds (archive_with s (a.contents contents) changes (come effects s.state).tape)

-- on the way of an answer: behind the first of its effects, however many
abbrev pub HoldsOnTheWay : Scene → Answer → Contents → Type 0
HoldsOnTheWay s a contents = (count : ℕ) → HoldsAfter s a contents (take count a.effects)

-- An effect takes no tape from a dump that is listed behind it: where such a dump was held in front of the effect it is held behind it.
pub record KeepsListed (s : Scene) (before : List Effect) (e : Effect) : Type 0 where
  pub changes : List Change
  pub journal : IsJournalAfter s.log (before ++ e ∷ []) changes
  pub still : StillHeld (after changes).listed (slots_of s.slots s.present (come before s.state).tape) (slots_of s.slots s.present (come (before ++ e ∷ []) s.state).tape)

-- so does each of these effects, behind those before it
abbrev pub EachKeepsListed : Scene → List Effect → Type 0
EachKeepsListed s effects = (count : ℕ) (e : Effect) → slice_get effects count ≡ Some e → KeepsListed s (take count effects) e

-- the scene behind an answer
abbrev pub scene_behind : Scene → Answer → Scene
scene_behind s a = record s { log = a.log; state = come a.effects s.state; time = a.time }

-- One archive comes of whatever another one came of, as far as dumps of ids below this one are concerned.
abbrev pub ComesOn : ℕ → Archive → Archive → Type 0
ComesOn floor a b = (greatest : ℕ) (before : Archive) → greatest < floor → ComesOf greatest before a → ComesOf greatest before b

-- What the archive in front of an answer came of that behind it comes of, as far as dumps are concerned whose ids are
-- known in front of it. Such ids are known behind it too.
pub record ComesSince (s : Scene) (a : Answer) (contents : Contents) : Type 0 where
  pub known : (id : ℕ) → IsKnownId s.time (database_in s).greatest id → IsKnownId a.time (after a.log).greatest id
  pub comes : (greatest : ℕ) (before : Archive) → IsKnownId s.time (database_in s).greatest greatest → ComesOf greatest before (archive_in s contents) → ComesOf greatest before (archive_in (scene_behind s a) (a.contents contents))

-- Behind an answer all that a dump asks is so again, of the dumps and the contents that there are then.
pub record AsksBehind (s : Scene) (a : Answer) (contents : Contents) : Type 0 where
  pub records : List DumpRecordFields
  pub asks : AsksOfScene (scene_behind s a) contents records
