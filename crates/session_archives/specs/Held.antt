-- WHEN A PLANT HOLDS THE ARCHIVE of a session: between two commands, on the way of one, and in what a crash leaves.
use Rattle.std.specs.Prelude.{◌≡◌, ℕ, ◌-◌, ◌<◌, List, [], ◌∷◌, ◌++◌, length, take, Some, slice_get, IsTrue, nat_lt, ◌&&◌, if◌then◌else◌}
use Rattle.plant_core.specs.Records.{Record}
use Rattle.plant_core.specs.Stock.{Stock}
use Rattle.plant_core.specs.Crashes.{IsSettled}
use Rattle.plant_core.specs.Effects.{Effect, tells, come}
use Rattle.tape_answers.specs.Slots.{slots_of}
use Rattle.budb_changes.specs.declared.change.Change.{Change}
use Rattle.budb_changes.specs.declared.records.DumpRecordFields.{DumpRecordFields}
use Rattle.budb_fold.specs.Database.{after}
use Rattle.archive_model.specs.Archives.{Archive, listed_of, Holds}
use Rattle.archive_model.specs.Settled.{HoldsSettled}
use Rattle.archive_model.specs.Turns.{StillHeld}
use Rattle.backup_session.specs.Worlds.{World, Contents, archive_of}
use Rattle.backup_session.specs.Bounded.{HasTapes}
use Rattle.backup_script.specs.Items.{item_of}
use Rattle.backup_script.specs.Scripts.{one_line}
use Rattle.dump_forms.specs.Journals.{IsJournalAfter}
use Rattle.dump_archives.specs.Keeping.{KnowsIds}
use Rattle.script_journals.specs.Worlds.{HasGroupForm}

-- Between two commands: the plant holds the archive of the world; all is settled; the slots that are here are some of the plant's; and the
-- tapes are as long as a plant's are. The dumps that an open group holds have their forms.
pub record HoldsWorld (w : World) : Type 0 where
  pub records : List DumpRecordFields
  pub holds : HoldsSettled w.state (archive_of w) records
  pub settled : IsSettled w.state
  pub within : (k : ℕ) → IsTrue (w.setting.present k) → k < w.setting.slots
  pub tapes : HasTapes w
  pub group : HasGroupForm w.groups.open

-- The archive of changes and of tapes, in the slots of a world and with these contents.
abbrev pub archive_with : World → Contents → List Change → (ℕ → List Record) → Archive
archive_with w contents log tape = record { log = log; slots = slots_of w.setting.slots w.setting.present tape; contents = contents }

-- Behind effects: their changes stand in the log, and the state holds the archive of these changes and of its own tapes, with these
-- contents. And where all ids on tapes were known to the journal, they are known there.
pub record HoldsAfter (w : World) (contents : Contents) (effects : List Effect) : Type 0 where
  pub changes : List Change
  pub journal : IsJournalAfter w.log effects changes
  pub records : List DumpRecordFields
  pub holds : HoldsSettled (come effects w.state) (archive_with w contents changes (come effects w.state).tape) records
  pub ids : KnowsIds (archive_of w) → KnowsIds (archive_with w contents changes (come effects w.state).tape)

-- On the way of effects: behind the first of them, however many, with the contents behind so many.
abbrev pub HoldsOnTheWay : World → (ℕ → Contents) → List Effect → Type 0
HoldsOnTheWay w contents effects = (count : ℕ) → HoldsAfter w (contents count) (take count effects)

-- What dumps have behind so many effects of a script: what they have behind the line whose effects are going on then. What a dump takes
-- stands there from its first effect on.
unfoldable pub contents_on : World → List ℕ → List (List ℕ) → ℕ → Contents
contents_on w ms [] count = w.contents
contents_on w ms (line ∷ lines) count =
    let s = one_line w ms (item_of line) in
    if s.goes && nat_lt (length s.effects) count then contents_on s.world s.moments lines (count - length s.effects) else s.world.contents

-- An effect takes no tape from a dump that is listed behind it: where such a dump was held in front of the effect it is held behind it.
pub record KeepsListed (w : World) (before : List Effect) (e : Effect) : Type 0 where
  pub changes : List Change
  pub journal : IsJournalAfter w.log (before ++ e ∷ []) changes
  pub still : StillHeld (after changes).listed (slots_of w.setting.slots w.setting.present (come before w.state).tape) (slots_of w.setting.slots w.setting.present (come (before ++ e ∷ []) w.state).tape)

-- so does each of these effects, behind those before it
abbrev pub EachKeepsListed : World → List Effect → Type 0
EachKeepsListed w effects = (count : ℕ) (e : Effect) → slice_get effects count ≡ Some e → KeepsListed w (take count effects) e

-- Where a reply is told, all that was put before it is settled.
abbrev pub RepliesSettle : World → List Effect → Type 0
RepliesSettle w effects = (before after : List Effect) (reply : List ℕ) → effects ≡ before ++ tells reply ∷ after → 0 < length reply → IsSettled (come before w.state)

-- What a crash leaves behind effects: the archive of their changes and of the tapes that are left, with the contents behind these effects.
-- Each listed dump is held where it was. And where all ids on tapes were known to the journal, they are known to the one that is left.
pub record HoldsImage (w : World) (contents : Contents) (effects : List Effect) (image : Stock) : Type 0 where
  pub changes : List Change
  pub journal : IsJournalAfter w.log effects changes
  pub records : List DumpRecordFields
  pub holds : Holds image (archive_with w contents changes image.tape) records
  pub still : StillHeld (listed_of (archive_with w contents changes image.tape)) (archive_with w contents changes (come effects w.state).tape).slots (archive_with w contents changes image.tape).slots
  pub ids : KnowsIds (archive_of w) → KnowsIds (archive_with w contents changes image.tape)
