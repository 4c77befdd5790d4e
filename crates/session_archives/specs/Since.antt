-- WHAT CAME SINCE in a session.
use Rattle.std.specs.Prelude.{◌≡◌, ℕ, List}
use Rattle.plant_core.specs.Crashes.{IsSettled}
use Rattle.budb_changes.specs.declared.change.Change.{Change}
use Rattle.budb_changes.specs.Bytes.{encoded}
use Rattle.budb_changes.specs.Forms.{AreChanges}
use Rattle.budb_fold.specs.Checkpoints.{checkpoint}
use Rattle.budb_save.specs.Back.{IsUnused}
use Rattle.dump_laws.specs.Beginning.{HeadsAreBelow}
use Rattle.archive_model.specs.Archives.{Archive}
use Rattle.budb_fold.specs.Database.{after}
use Rattle.saved_archives.specs.Since.{ComesOf}
use Rattle.dump_archives.specs.Keeping.{IsKnownId}
use Rattle.backup_session.specs.Worlds.{World, archive_of}

-- What the archive of a world came of that of a later one comes of, as far as dumps are concerned whose ids are known
-- in the first one. Such ids are known in the later one too.
pub record CameSince (w v : World) : Type 0 where
  pub known : (id : ℕ) → IsKnownId w.time (after w.log).greatest id → IsKnownId v.time (after v.log).greatest id
  pub comes : (greatest : ℕ) (before : Archive) → IsKnownId w.time (after w.log).greatest greatest → ComesOf greatest before (archive_of w) → ComesOf greatest before (archive_of v)

-- A world has the tapes of another one and what the dumps have there, beside a journal of its own, which lists no dump
-- and has no volume set and no level; all is settled.
pub record HasItsMedia (u v : World) : Type 0 where
  pub setting : v.setting ≡ u.setting
  pub tapes : (k : ℕ) → v.state.tape k ≡ u.state.tape k
  pub contents : v.contents ≡ u.contents
  pub changes : AreChanges v.log
  pub log : v.state.log ≡ encoded v.log
  pub unused : IsUnused (after v.log)
  pub settled : IsSettled v.state

-- each dump id on a tape of a world is known
abbrev pub KnowsHeads : World → Type 0
KnowsHeads w = HeadsAreBelow (archive_of w).slots w.time (after w.log).greatest

-- the changes that are saved of a world's database
abbrev pub saved_of : World → List Change
saved_of w = checkpoint (after w.log)
