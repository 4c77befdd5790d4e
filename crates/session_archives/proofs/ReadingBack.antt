-- A DATABASE THAT IS READ BACK and fits the media keeps the archive: its changes are one commit, and no tape is another one. What it brings was
-- on the tapes. It leaves a ready world ready.
use Rattle.std.proofs.Common.{◌≡◌, inl, inr, ℕ, ◌≤◌, Some, List, [], ◌++◌, refl, arith}
use Rattle.std.specs.Prelude.{Result}
use Rattle.plant_core.specs.Effects.{commits, comes}
use Rattle.tape_config.specs.declared.port.PortFields.{PortFields}
use Rattle.budb_changes.specs.declared.change.Change.{Change}
use Rattle.budb_changes.specs.Bytes.{encoded}
use Rattle.budb_changes.specs.Forms.{AreChanges}
use Rattle.budb_save.proofs.ReadLaws.{saves_whole}
use Rattle.archive_model.proofs.DumpLaws.{rest_holds}
use Rattle.dump_archives.proofs.Growing.{greatest_more}
use Rattle.dump_laws.specs.Rest.{settled_whole}
use Rattle.backup_session.specs.Asks.{Asks, AsksNothing, AsksArchive, AsksFitness, AsksSaved}
use Rattle.backup_session.specs.Worlds.{World, Turn, archive_of, last_cell, before_reply}
use Rattle.backup_session.specs.Saves.{time_back, made_back, back_turn, port_back}
use Rattle.backup_session.proofs.SaveTurns.{by_back}
use Rattle.backup_session.proofs.Settling.{settled_commit}
use Rattle.script_journals.proofs.Following.{own_bytes}
use Rattle.script_journals.proofs.TurnForms.{back_four}
use Rattle.session_archives.specs.Ready.{IsInOrder, FitsBack, FitsBackWhere}
use Rattle.session_archives.proofs.Kept.{TurnKeeps, Finds, said_keeps}
use Rattle.session_archives.proofs.Orders.{none_made_later}
use Rattle.session_archives.proofs.Present.{TouchesHere}

-- the changes that are read back at a port fit the media
abbrev pub FitsAt : World → Result PortFields (List ℕ) → Type 0
FitsAt w port = (changes : List Change) → port_back w port ≡ Some changes → FitsBack w changes

-- ---- the archive

module _ (w : World) (finds : Finds w) where
  made_keeps : (changes : List Change) → AreChanges changes → FitsBack w changes → TurnKeeps w (made_back w changes)
  made_keeps changes form fits = record {
    keeps = (finds.holds, (changes, own_bytes changes form, ((fits.records, fits.holds), refl)));
    settled = settled_commit (encoded changes) w.state finds.settled;
    contents = refl;
    adds = (changes, own_bytes changes form, refl);
  }

  pub back_keeps : (port : Result PortFields (List ℕ)) → FitsAt w port → TurnKeeps w (back_turn w port)
  back_keeps port fits = by_back w (TurnKeeps w) (said_keeps w finds) port (λ changes comes. made_keeps changes (saves_whole (w.state.tape comes.pick.slot) changes comes.read).form (fits changes comes.back))

-- ---- the order

module _ (w : World) (order : IsInOrder w.cell w.time (archive_of w)) where
  abbrev InOrderBehind : Turn → Type 0
  InOrderBehind t = IsInOrder (last_cell w.cell t.cells) t.time (archive_of (before_reply w t))

  time_grows : (changes : List Change) → w.time ≤ time_back w changes
  time_grows changes = omega arith

  made_order : (changes : List Change) → FitsBack w changes → InOrderBehind (made_back w changes)
  made_order changes fits = record {
    form = order.form;
    four = back_four w changes order.four fits.holds.seen.changes;
    made = none_made_later w.cell w.time (time_back w changes) (time_grows changes) order.made;
    fit = record {
      fair = fits.fair;
      named = order.fit.named;
      heads = λ k s n h at is. elim (order.fit.heads k s n h at is) [
        | inl low ↦ inl (omega (arith, low, greatest_more w.log changes))
        | inr early ↦ inr (omega (arith, early, time_grows changes))
      ];
      volumes = order.fit.volumes;
    };
  }

  pub back_order : (port : Result PortFields (List ℕ)) → FitsAt w port → InOrderBehind (back_turn w port)
  back_order port fits = by_back w InOrderBehind (λ text. order) port (λ changes comes. made_order changes (fits changes comes.back))

-- ---- no tape is touched

pub back_here : (w : World) (port : Result PortFields (List ℕ)) → TouchesHere w.setting.present (back_turn w port).effects
back_here w port = by_back w (λ (t : Turn). TouchesHere w.setting.present t.effects) (λ text. tt) port (λ changes comes. tt)

-- ---- a world of which not all is settled

module _ (w : World) where
  abbrev rested : World
  rested = record w { state = settled_whole w.state }

  fits_rested : (changes : List Change) → FitsBack w changes → FitsBack rested changes
  fits_rested changes fits = record {
    records = fits.records;
    holds =
        let s = comes (commits (encoded changes)) (settled_whole w.state) in
        rest_holds s (record (archive_of w) { log = w.log ++ changes }) fits.records fits.holds.seen refl (λ k. refl);
    fair = fits.fair;
  }

  pub where_rested : (a : Asks) → FitsBackWhere w a → FitsBackWhere rested a
  where_rested AsksNothing fits = tt
  where_rested (AsksArchive command) fits = tt
  where_rested AsksFitness fits = tt
  where_rested (AsksSaved offset) fits = λ changes back. fits_rested changes (fits changes back)
