-- Commands on the cell, and restores, leave the cell in order.
use Rattle.std.proofs.Common.{◌≡◌, ℕ, ◌<◌, Bool, true, false, List, [], ◌∷◌, IsTrue, refl, sym, subst, arith}
use Rattle.std.specs.Prelude.{◌↔◌, All, Option, Some, None, IfSome, Result, Ok, Err}
use Rattle.std.proofs.lemmas.List.Elements.{All-nil, All-cons, All-head, All-tail, All-replicate}
use Rattle.bk_text.specs.Alphabets.{IsName}
use Rattle.bk_text.specs.Tests.{name_test}
use Rattle.byte_formats.specs.Forms.{IsFour}
use Rattle.volume_sets.specs.declared.sets.SetEntry.{SetEntry}
use Rattle.volume_sets.specs.Sets.{entries_of}
use Rattle.dump_stream.specs.Forms.{IsBytes}
use Rattle.cell_core.specs.declared.fault.CellFault.{CellFault}
use Rattle.cell_core.specs.declared.stored.Stored.{Stored}
use Rattle.cell_core.specs.Calls.{Creation, after_create, after_write, after_remove_vnode, after_backup, after_remove}
use Rattle.cell_core.specs.Fairness.{Dumped}
use Rattle.budb_changes.specs.Forms.{IsDumpRecord}
use Rattle.budb_fold.specs.Database.{after}
use Rattle.restore_target.specs.Targets.{target_text}
use Rattle.restore_commands.specs.Choices.{disk_choices, set_choices}
use Rattle.restore_commands.specs.Answers.{Manner, all_answer, entries_answer}
use Rattle.backup_words.specs.declared.command.Command.TheVariants.{Restore}
use Rattle.backup_words.specs.declared.command.CellCommand.{CellCommand}
use Rattle.backup_words.specs.declared.command.CellCommand.TheVariants.{VosCreate, VosWrite, VosRmvnode, VosBackup, VosRemove, VosListvol}
use Rattle.backup_words.specs.declared.command.RestoreCommand.{RestoreCommand}
use Rattle.backup_words.specs.declared.command.RestoredVolumes.{RestoredVolumes}
use Rattle.backup_words.specs.declared.command.RestoredVolumes.TheVariants.{One, OfDisk, OfSet}
use Rattle.backup_words.specs.declared.command.Wanted.{Wanted}
use Rattle.command_forms.specs.Forms.{CellForms, RestoredForms}
use Rattle.command_forms.specs.NewNames.{IsApart, CellNamesApart}
use Rattle.backup_session.specs.Worlds.{World, archive_of, last_cell}
use Rattle.backup_session.specs.Cells.{answered, created, data_for, cell_answer}
use Rattle.backup_session.specs.Restores.{manner_at, volumes_answer, restore_answer}
use Rattle.session_archives.specs.Ready.{IsInOrder, targets_of, set_targets, unless_trial, volume_targets, RestoresApart}
use Rattle.session_archives.proofs.Orders.{CellIsGood, DumpedBy, good_cell, created_good, written_good, removed_vnode_good, backed_up_good, removed_good}
use Rattle.session_archives.proofs.ReadyRestores.{volume_good, volume_quiet, all_good, all_quiet, disk_well, set_well}

-- ---- commands on the cell

data_bytes : (text : Option (List ℕ)) (size : Option ℕ) → IfSome text IsBytes → IsBytes (data_for text size)
data_bytes (Some text) size form = form
data_bytes None (Some size) form = All-replicate (λ (b : ℕ). b < 256) size 120 (omega arith)
data_bytes None None form = All-nil (λ (b : ℕ). b < 256)

created_from : (P : List Stored → Type 0) (r : Result Creation CellFault) → ((made : Creation) → r ≡ Ok made → P made.list) → (new : List Stored) → created r ≡ Ok new → P new
created_from P (Ok made) good new is = (let same : made.list ≡ new = cc in subst P same (good made refl))
created_from P (Err fault) good new is = absurd cc

module _ (Each : List Dumped → Type 0) (now : ℕ) (four : IsFour now) (cell : List Stored) (good : CellIsGood Each now cell) where
  answered_good : (name : List ℕ) (number : ℕ) (due : Result (List Stored) CellFault) → ((new : List Stored) → due ≡ Ok new → CellIsGood Each now new) → CellIsGood Each now (last_cell cell (answered name number due).cells)
  answered_good name number (Ok new) done = done new refl
  answered_good name number (Err fault) done = good

  pub command_good : (command : CellCommand) → CellForms command → CellNamesApart command → CellIsGood Each now (last_cell cell (cell_answer cell now command).cells)
  command_good (VosCreate server partition name) form apart =
      answered_good name 0 (created (after_create cell server partition name now))
      (created_from (CellIsGood Each now) (after_create cell server partition name now) (λ made is. created_good Each now four cell good server partition name made form.0 form.1 form.2 apart is))
  command_good (VosWrite volume vnode text size) form apart =
      answered_good volume vnode (after_write cell volume vnode (data_for text size) now) (λ new is. written_good Each now four cell good volume vnode (data_for text size) new form.0 (data_bytes text size form.1) is)
  command_good (VosRmvnode volume vnode) form apart = answered_good volume vnode (after_remove_vnode cell volume vnode now) (λ new is. removed_vnode_good Each now four cell good volume vnode new is)
  command_good (VosBackup volume) form apart = answered_good volume 0 (after_backup cell volume now) (λ new is. backed_up_good Each now four cell good volume new is)
  command_good (VosRemove volume) form apart = answered_good volume 0 (after_remove cell volume) (λ new is. removed_good Each now four cell good volume new is)
  command_good VosListvol form apart = good

-- ---- restores

last_good : (P : List Stored → Type 0) (cell : List Stored) (cells : List (List Stored)) → P cell → All P cells → P (last_cell cell cells)
last_good P cell [] good all = good
last_good P cell (c ∷ cs) good all = last_good P c cs (All-head P c cs all) (All-tail P c cs all)

-- the names of chosen volumes, one by one
each_apart : (extension : Option (List ℕ)) (choices : List Wanted) → All IsApart (targets_of extension choices) → All (λ c. IsApart (target_text c.name extension)) choices
each_apart extension [] all = All-nil (λ (c : Wanted). IsApart (target_text c.name extension))
each_apart extension (c ∷ cs) all =
    All-cons (λ (c : Wanted). IsApart (target_text c.name extension)) c cs (All-head IsApart (target_text c.name extension) (targets_of extension cs) all)
    (each_apart extension cs (All-tail IsApart (target_text c.name extension) (targets_of extension cs) all))

module _ (tests : (text : List ℕ) → IsTrue (name_test text) ↔ IsName text) (w : World) (order : IsInOrder w.cell w.time (archive_of w)) (forms : All IsDumpRecord (after w.log).listed) where
  abbrev GoodHere : List Stored → Type 0
  GoodHere cell = CellIsGood (DumpedBy (archive_of w)) w.time cell

  good_here : GoodHere w.cell
  good_here = good_cell w.cell w.time (archive_of w) order

  entries_good : (manner : Manner) → manner.time ≡ w.time → (name : List ℕ) (entries : Option (List SetEntry)) → All IsApart (set_targets (after w.log).listed manner.extension entries) → GoodHere (last_cell w.cell (entries_answer (archive_of w) w.cell manner name entries).cells)
  entries_good manner is name None all = good_here
  entries_good manner is name (Some entries) all =
      let choices = set_choices (after w.log).listed entries in
      let P : List Stored → Type 0 = λ (cell : List Stored). CellIsGood (DumpedBy (archive_of w)) manner.time cell in
      subst (λ (n : ℕ). CellIsGood (DumpedBy (archive_of w)) n (last_cell w.cell (all_answer (archive_of w) w.cell manner choices).cells)) is
      (let here : P w.cell = subst (λ (n : ℕ). CellIsGood (DumpedBy (archive_of w)) n w.cell) (sym is) good_here in
      last_good P w.cell (all_answer (archive_of w) w.cell manner choices).cells here
      (all_good tests (archive_of w) order.fit.volumes (DumpedBy (archive_of w)) manner (subst IsFour (sym is) order.four) w.cell choices here (set_well (after w.log).listed manner.extension forms entries (each_apart manner.extension choices all))))

  entries_quiet : (manner : Manner) → manner.time ≡ w.time → manner.is_trial ≡ true → (name : List ℕ) (entries : Option (List SetEntry)) → GoodHere (last_cell w.cell (entries_answer (archive_of w) w.cell manner name entries).cells)
  entries_quiet manner is trial name None = good_here
  entries_quiet manner is trial name (Some entries) =
      let choices = set_choices (after w.log).listed entries in
      let P : List Stored → Type 0 = λ (cell : List Stored). CellIsGood (DumpedBy (archive_of w)) manner.time cell in
      subst (λ (n : ℕ). CellIsGood (DumpedBy (archive_of w)) n (last_cell w.cell (all_answer (archive_of w) w.cell manner choices).cells)) is
      (last_good P w.cell (all_answer (archive_of w) w.cell manner choices).cells (subst (λ (n : ℕ). CellIsGood (DumpedBy (archive_of w)) n w.cell) (sym is) good_here)
      (all_quiet tests (archive_of w) order.fit.volumes (DumpedBy (archive_of w)) manner (subst IsFour (sym is) order.four) trial w.cell choices))

  module _ (command : RestoreCommand) where
    trial_good : command.trial ≡ true → (volumes : RestoredVolumes) → GoodHere (last_cell w.cell (volumes_answer (archive_of w) (after w.log).sets w.cell (manner_at w.time command) volumes).cells)
    trial_good trial (One wanted) = last_good GoodHere w.cell _ good_here (volume_quiet tests (archive_of w) order.fit.volumes (DumpedBy (archive_of w)) (manner_at w.time command) order.four trial w.cell wanted)
    trial_good trial (OfDisk disk) =
        last_good GoodHere w.cell _ good_here (all_quiet tests (archive_of w) order.fit.volumes (DumpedBy (archive_of w)) (manner_at w.time command) order.four trial w.cell (disk_choices (after w.log).listed disk))
    trial_good trial (OfSet name) = entries_quiet (manner_at w.time command) refl trial name (entries_of name (after w.log).sets)

    asked_good : (volumes : RestoredVolumes) → RestoredForms volumes → All IsApart (volume_targets w command.extension volumes) → GoodHere (last_cell w.cell (volumes_answer (archive_of w) (after w.log).sets w.cell (manner_at w.time command) volumes).cells)
    asked_good (One wanted) form apart =
        last_good GoodHere w.cell _ good_here
        (volume_good tests (archive_of w) order.fit.volumes (DumpedBy (archive_of w)) (manner_at w.time command) order.four w.cell wanted good_here
        (record { server = form.0; partition = form.1; target = All-head IsApart (target_text wanted.name command.extension) [] apart }))
    asked_good (OfDisk disk) form apart =
        let choices = disk_choices (after w.log).listed disk in
        last_good GoodHere w.cell _ good_here
        (all_good tests (archive_of w) order.fit.volumes (DumpedBy (archive_of w)) (manner_at w.time command) order.four w.cell choices good_here
        (disk_well (after w.log).listed command.extension disk form.0 form.1 form.2 form.3 (each_apart command.extension choices apart)))
    asked_good (OfSet name) form apart = entries_good (manner_at w.time command) refl name (entries_of name (after w.log).sets) apart

    restored_good_by : (trial : Bool) → command.trial ≡ trial → RestoredForms command.volumes → All IsApart (unless_trial trial (volume_targets w command.extension command.volumes))
        → GoodHere (last_cell w.cell (restore_answer (archive_of w) (after w.log).sets w.cell w.time command).cells)
    restored_good_by true is form apart = trial_good is command.volumes
    restored_good_by false is form apart = asked_good command.volumes form apart

  pub restored_in_order : (command : RestoreCommand) → RestoredForms command.volumes → RestoresApart w (Restore command) → GoodHere (last_cell w.cell (restore_answer (archive_of w) (after w.log).sets w.cell w.time command).cells)
  restored_in_order command form apart = restored_good_by command command.trial refl form apart
