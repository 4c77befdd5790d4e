-- How many loads a restore takes, over the slots and the database of a world.
use Rattle.std.proofs.Common.{◌≡◌, ℕ, ◌+◌, ◌≤◌, Bool, true, false, Option, Some, None, List, length, refl, sym, ◌∙◌, ap, subst, arith}
use Rattle.std.specs.Prelude.{slice_get, IfSome, if◌then◌else◌}
use Rattle.plant_core.specs.declared.plant.Plant.{Ghosts as Plant}
use Rattle.plant_core.specs.Records.{Record}
use Rattle.budb_changes.specs.declared.records.DumpRecordFields.{DumpRecordFields}
use Rattle.budb_fold.specs.declared.database.Database.{Database}
use Rattle.budb_fold.specs.Database.{after}
use Rattle.budb_fold.specs.Chains.{HaveParentsBelow}
use Rattle.tape_text.specs.Items.{Read}
use Rattle.tape_scan.specs.Slots.{Slot}
use Rattle.tape_scan.specs.Looking.{HasSlots}
use Rattle.tape_answers.specs.Slots.{slots_of}
use Rattle.archive_model.proofs.ListedLaws.{all_below}
use Rattle.budb.specs.Views.{BudbView}
use Rattle.cell_core.specs.declared.cell.Cell.{Ghosts as Cell}
use Rattle.backup_words.specs.declared.command.Command.{Command}
use Rattle.backup_words.specs.declared.command.Command.TheVariants.{Restore}
use Rattle.backup_words.specs.declared.command.RestoreCommand.{RestoreCommand}
use Rattle.backup_words.specs.declared.command.RestoredVolumes.{RestoredVolumes}
use Rattle.restore_commands.specs.Answers.{Manner}
use Rattle.backup_session.specs.Views.{SessionView}
use Rattle.backup_session.specs.Worlds.{World}
use Rattle.backup_session.specs.Groups.{ends_group}
use Rattle.backup_session.specs.Restores.{manner_at}
use Rattle.backup_session.specs.Loading.{volumes_loads, command_loads, restore_loads}
use Rattle.backup_session.specs.Fitting.{Stands}

-- so many loads at most, where a bound is said
abbrev pub Within : ℕ → ℕ → Option ℕ → Type 0
Within old new bound = IfSome bound (λ most. new ≤ old + most)

module _ (slots : List Slot) (db : Database) (time : ℕ) (command : RestoreCommand) (volumes : RestoredVolumes) (manner : Manner) (old new : ℕ) where
  -- a restore that isn't a trial, by which volumes it wants
  pub loads_by : command.volumes ≡ volumes → manner ≡ manner_at time command → (manner.is_trial ≡ false → Within old new (volumes_loads slots db volumes)) → Within old new (command_loads slots db command)
  loads_by is so within = go command.trial refl
    where
      go : (b : Bool) → command.trial ≡ b → Within old new (if b then None else volumes_loads slots db command.volumes)
      go true trial = tt
      go false real = subst (λ (v : RestoredVolumes). Within old new (volumes_loads slots db v)) (sym is) (within (ap (λ (m : Manner). m.is_trial) so ∙ real))

module _ {D E : Type 0} (P : Plant D) (C : Cell E) (w : World) (plant : D) (site : E) (session : SessionView) (stands : Stands P C w plant site session) where
  -- the slots of the world stand on the plant
  pub slots_stand : length (slots_of w.setting.slots w.setting.present w.state.tape) ≡ w.setting.slots
      → ((k : ℕ) (s : Slot) → slice_get (slots_of w.setting.slots w.setting.present w.state.tape) k ≡ Some s → s.here ≡ w.setting.present k)
      → ((k : ℕ) (s : Slot) → slice_get (slots_of w.setting.slots w.setting.present w.state.tape) k ≡ Some s → Read (w.state.tape k) s.items) → HasSlots P (slots_of w.setting.slots w.setting.present w.state.tape) plant
  slots_stand count here items = record {
    count = count ∙ sym stands.slots;
    each = λ k s at. record {
      here = here k s at ∙ sym (stands.present k);
      items = subst (λ (t : List Record). Read t s.items) (sym (stands.state.tape k)) (items k s at);
    };
  }

  module _ (budb : BudbView) (is : budb ≡ session.budb) where
    database_is : budb.database ≡ after w.log
    database_is = ap (λ (b : BudbView). b.database) is ∙ stands.keeps.fold

    pub parents_below : HaveParentsBelow budb.database.listed
    parents_below = subst (λ (db : Database). HaveParentsBelow db.listed) (sym database_is) (all_below w.log)

    pub loads_here : (command : RestoreCommand) (old new : ℕ) → Within old new (command_loads (slots_of w.setting.slots w.setting.present w.state.tape) budb.database command) → Within old new (restore_loads w command)
    loads_here command old new = subst (λ (db : Database). Within old new (command_loads (slots_of w.setting.slots w.setting.present w.state.tape) db command)) database_is

-- nothing was loaded
pub none_loaded : (n : ℕ) (bound : Option ℕ) → Within n n bound
none_loaded n None = tt
none_loaded n (Some most) = omega arith

-- a restore ends no group
pub restore_ends_none : (command : Command) (asked : RestoreCommand) → command ≡ Restore asked → ends_group command ≡ false
restore_ends_none command asked is = ap ends_group is
