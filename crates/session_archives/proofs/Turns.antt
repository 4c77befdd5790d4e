-- The turn of a command that is no dump keeps the archive.
use Rattle.std.proofs.Common.{◌≡◌, inl, inr, ℕ, ◌≤◌, List, ◌++◌, length, refl, sym, ap, subst, arith}
use Rattle.std.specs.Prelude.{nat_lt, Result, Ok, Err}
use Rattle.plant_core.specs.Effects.{commits, comes}
use Rattle.budb_changes.specs.declared.change.Change.{Change}
use Rattle.budb_changes.specs.Bytes.{encoded}
use Rattle.budb_changes.specs.Forms.{AreChanges}
use Rattle.budb_fold.specs.declared.database.Database.{Database}
use Rattle.budb_fold.specs.Database.{after}
use Rattle.budb_fold.specs.Checkpoints.{checkpoint}
use Rattle.budb.proofs.FoldForms.{forms_after, checkpoint_form}
use Rattle.backup_words.specs.declared.command.Command.TheVariants.{Tape}
use Rattle.backup_words.specs.declared.command.DatabaseCommand.{DatabaseCommand}
use Rattle.backup_words.specs.declared.command.TapeCommand.{TapeCommand}
use Rattle.backup_words.specs.declared.command.TapeCommand.TheVariants.{Labeltape, Readlabel, Scantape, Savedb, Restoredb}
use Rattle.backup_session.specs.declared.verdict.Verdict.{Verdict}
use Rattle.backup_session.specs.declared.verdict.Verdict.TheVariants.{Refuses, Makes, Shortens, Shows}
use Rattle.backup_session.specs.Worlds.{World}
use Rattle.backup_session.specs.Turns.{length_with}
use Rattle.backup_session.specs.Verdicts.{verdict}
use Rattle.tape_config.specs.declared.port.PortFields.{PortFields}
use Rattle.backup_session.specs.Bounded.{HasTapes}
use Rattle.backup_session.specs.Scanning.{port_of}
use Rattle.backup_session.specs.Tapes.{slot_of, read_turn, tape_turn}
use Rattle.backup_session.specs.Cells.{CellAnswer}
use Rattle.restore_commands.specs.Answers.{RestoreAnswer}
use Rattle.backup_session.specs.Restores.{restored}
use Rattle.backup_session.specs.Machine.{committed, replaced, carried, on_cell}
use Rattle.backup_session.proofs.Settling.{settled_commit, settled_replace}
use Rattle.command_forms.specs.Forms.{DatabaseForms, TapeForms}
use Rattle.script_journals.proofs.Following.{own_bytes}
use Rattle.script_journals.proofs.Verdicts.{HasBytes, verdict_form}
use Rattle.session_archives.proofs.Keeping.{HoldsAt}
use Rattle.session_archives.proofs.Effects.{untouched_at, forgotten_at, replaced_at}
use Rattle.session_archives.proofs.Kept.{Reads, TurnKeeps, Finds, said_keeps, picked}
use Rattle.session_archives.proofs.Labels.{label_keeps, slot_is_here}
use Rattle.backup_session.proofs.FoundForms.{found_forms}
use Rattle.session_archives.proofs.Scans.{Assembles, HaveForms, scan_keeps}
use Rattle.session_archives.specs.Ready.{FitsBackFor}
use Rattle.session_archives.proofs.ReadingBack.{back_keeps}
use Rattle.session_archives.proofs.SavedTurns.{save_keeps}
use Rattle.session_archives.proofs.Verdicts.{AreMild, IsMild, verdict_mild}

-- a checkpoint makes the same database again
abbrev pub MakesSame : Type 0
MakesSame = (log : List Change) → after (checkpoint (after log)) ≡ after log

module _ (w : World) (finds : Finds w) where
  log_form : AreChanges w.log
  log_form = finds.holds.1.seen.changes

  -- ---- commands on the database

  mild_at : (changes : List Change) → AreChanges changes → AreMild changes → HoldsAt w.setting.slots w.setting.present w.contents (w.log ++ changes) (comes (commits (encoded changes)) w.state)
  mild_at changes form (inl none) = untouched_at w.setting.slots w.setting.present w.contents w.state w.log changes finds.holds form none
  mild_at changes form (inr (ids, are)) =
      subst (λ (cs : List Change). HoldsAt w.setting.slots w.setting.present w.contents (w.log ++ cs) (comes (commits (encoded cs)) w.state)) (sym are)
      (forgotten_at w.setting.slots w.setting.present w.contents w.state w.log ids finds.holds (subst AreChanges are form))

  committed_keeps : (changes : List Change) (text : List ℕ) → AreChanges changes → AreMild changes → TurnKeeps w (committed w changes text)
  committed_keeps changes text form mild = record {
    keeps = (finds.holds, (changes, own_bytes changes form, (mild_at changes form mild, refl)));
    settled = settled_commit (encoded changes) w.state finds.settled;
    contents = refl;
    adds = (changes, own_bytes changes form, refl);
  }

  replaced_keeps : (changes : List Change) → AreChanges changes → after changes ≡ after w.log → TurnKeeps w (replaced w changes)
  replaced_keeps changes form same = record {
    keeps = (finds.holds, (changes, own_bytes changes form, (replaced_at w.setting.slots w.setting.present w.contents w.state w.log changes finds.holds form (ap (λ (db : Database). db.listed) same), refl)));
    settled = settled_replace (encoded changes) w.state finds.settled;
    contents = refl;
    adds = (changes, own_bytes changes form, subst (λ (db : Database). (after w.log).greatest ≤ db.greatest) (sym same) (omega arith), refl);
  }

  carried_keeps : MakesSame → (v : Verdict) → HasBytes v → IsMild v → TurnKeeps w (carried w v)
  carried_keeps same (Refuses text) form mild = said_keeps w finds text
  carried_keeps same (Shows text) form mild = said_keeps w finds text
  carried_keeps same (Makes changes text) form mild = picked w (nat_lt 268435456 (length_with w changes)) _ _ (said_keeps w finds _) (committed_keeps changes text form mild)
  carried_keeps same Shortens form mild =
      let short = checkpoint (after w.log) in
      picked w (nat_lt 268435456 (length (encoded short))) _ _ (said_keeps w finds _) (replaced_keeps short (checkpoint_form (after w.log) (forms_after w.log log_form)) (same w.log))

  -- ---- commands on labels and on the cell, and restores

  read_keeps : (r : Result ℕ (List ℕ)) → TurnKeeps w (read_turn w r)
  read_keeps (Err text) = said_keeps w finds text
  read_keeps (Ok slot) = said_keeps w finds _

  pub cell_keeps : (answer : CellAnswer) → TurnKeeps w (on_cell w answer)
  cell_keeps answer = record { keeps = (finds.holds, refl); settled = finds.settled; contents = refl; adds = refl }

  pub restore_keeps : (answer : RestoreAnswer) → TurnKeeps w (restored w answer)
  restore_keeps answer = record { keeps = (finds.holds, refl); settled = finds.settled; contents = refl; adds = refl }

-- the dumps that a scan finds have records of the journal's form
pub forms_found : (w : World) → HasTapes w → (port : Result PortFields (List ℕ)) → HaveForms w port
forms_found w has (Err text) = tt
forms_found w has (Ok port) = found_forms w has port

module _ (reads : Reads) (assembles : Assembles) (same : MakesSame) (w : World) (has : HasTapes w) (finds : Finds w) where
  pub tape_keeps : (command : TapeCommand) → TapeForms command → FitsBackFor w (Tape command) → TurnKeeps w (tape_turn w command)
  tape_keeps (Labeltape name pname offset slot) form back =
      label_keeps reads w finds name pname form.0 form.1 (slot_of w.setting (after w.log).hosts offset slot) (slot_is_here w.setting (after w.log).hosts offset slot)
  tape_keeps (Readlabel offset slot) form back = read_keeps w finds (slot_of w.setting (after w.log).hosts offset slot)
  tape_keeps (Scantape dbadd offset) form back =
      let port = port_of w.setting.config (after w.log).hosts offset in
      scan_keeps assembles w dbadd port finds (forms_found w has port)
  tape_keeps (Savedb offset) form back = save_keeps reads w finds (port_of w.setting.config (after w.log).hosts offset)
  tape_keeps (Restoredb offset) form back = back_keeps w finds (port_of w.setting.config (after w.log).hosts offset) back

  pub database_keeps : (command : DatabaseCommand) → DatabaseForms command → TurnKeeps w (carried w (verdict (after w.log) command))
  database_keeps command form =
      carried_keeps w finds same (verdict (after w.log) command) (verdict_form (after w.log) (forms_after w.log (log_form w finds)).listed command form) (verdict_mild (after w.log) command)
