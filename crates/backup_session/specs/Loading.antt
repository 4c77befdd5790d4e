-- HOW MANY LOADS OF TAPES a restore of several volumes takes at most. Of a restore of one volume nothing is said, and of a trial neither.
use Rattle.std.specs.Prelude.{ℕ, if◌then◌else◌, Option, Some, None, List}
use Rattle.volume_sets.specs.Sets.{entries_of}
use Rattle.budb_fold.specs.declared.database.Database.{Database}
use Rattle.budb_fold.specs.Database.{after}
use Rattle.tape_scan.specs.Slots.{Slot}
use Rattle.tape_answers.specs.Slots.{slots_of}
use Rattle.backup_words.specs.declared.command.RestoreCommand.{RestoreCommand}
use Rattle.backup_words.specs.declared.command.RestoredVolumes.{RestoredVolumes}
use Rattle.backup_words.specs.declared.command.RestoredVolumes.TheVariants.{One, OfDisk, OfSet}
use Rattle.restore_commands.specs.Choices.{disk_choices}
use Rattle.restore_commands.specs.Batches.{batch_loads, entries_loads}
use Rattle.backup_session.specs.Worlds.{World}

-- the bound, by which volumes a command wants
abbrev pub volumes_loads : List Slot → Database → RestoredVolumes → Option ℕ
volumes_loads slots db (One wanted) = None
volumes_loads slots db (OfDisk disk) = Some (batch_loads slots db.listed (disk_choices db.listed disk))
volumes_loads slots db (OfSet name) = Some (entries_loads slots db.listed (entries_of name db.sets))

-- the bound for a command that restores; `None` for one volume, and for a trial
abbrev pub command_loads : List Slot → Database → RestoreCommand → Option ℕ
command_loads slots db command = if command.trial then None else volumes_loads slots db command.volumes

-- the same over the slots and the database of a world
abbrev pub restore_loads : World → RestoreCommand → Option ℕ
restore_loads w command = command_loads (slots_of w.setting.slots w.setting.present w.state.tape) (after w.log) command
