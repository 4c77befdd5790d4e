-- TAPES THAT OUTLIVE THEIR JOURNAL, in terms of worlds.
use Rattle.std.specs.Prelude.{◌≡◌, ◌⊎◌, ℕ, ◌<◌, ◌≤◌, [], None, IsTrue}
use Rattle.budb_changes.specs.Bytes.{encoded}
use Rattle.budb_changes.specs.Forms.{AreChanges}
use Rattle.budb_fold.specs.Database.{after}
use Rattle.plant_core.specs.Crashes.{IsSettled}
use Rattle.backup_session.specs.Worlds.{World, archive_of}
use Rattle.lost_journals.specs.Archives.{HasItsContents}

-- A world stands on the tapes of another one: it has as many slots, and in each of them the other's tape or a blank one. Any of them may be
-- here or out. No group is open, as where a session begins. All is settled, and each dump of the other's archive has what it had there.
pub record HasTapesOf (w v : World) : Type 0 where
  pub slots : v.setting.slots ≡ w.setting.slots
  pub here : (k : ℕ) → IsTrue (v.setting.present k) → (k < v.setting.slots) × (k < 65535)
  pub tapes : (k : ℕ) → (v.state.tape k ≡ w.state.tape k) ⊎ (v.state.tape k ≡ [])
  pub alone : v.groups.open ≡ None
  pub settled : IsSettled v.state
  pub contents : HasItsContents (archive_of w) (archive_of v)

-- The same where tapes may have changed their slots: in each slot is a blank tape or that of some slot there, in no two that of the same one,
-- and behind the slots is none.
pub record HasTapesAnywhere (w v : World) : Type 0 where
  pub place : ℕ → ℕ
  pub tapes : (k : ℕ) → (v.state.tape k ≡ w.state.tape (place k)) ⊎ (v.state.tape k ≡ [])
  pub once : (j k : ℕ) → (v.state.tape j ≡ [] → ⊥) → (v.state.tape k ≡ [] → ⊥) → place j ≡ place k → j ≡ k
  pub beyond : (k : ℕ) → v.setting.slots ≤ k → v.state.tape k ≡ []
  pub here : (k : ℕ) → IsTrue (v.setting.present k) → (k < v.setting.slots) × (k < 65535)
  pub alone : v.groups.open ≡ None
  pub settled : IsSettled v.state
  pub contents : HasItsContents (archive_of w) (archive_of v)

-- A world's journal lists no dump: it is empty, or it has hosts, volume sets and levels alone, or its dumps were forgotten.
pub record ListsNothing (v : World) : Type 0 where
  pub changes : AreChanges v.log
  pub log : v.state.log ≡ encoded v.log
  pub none : (after v.log).listed ≡ []
