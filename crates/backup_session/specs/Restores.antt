-- WHAT A RESTORE MAKES OF A WORLD: each volume is one look-up in its archive, and goes into the cell. Loading tapes is no effect: by it more
-- may be settled than the effects say.
use Rattle.std.specs.Prelude.{ℕ, List}
use Rattle.cell_core.specs.declared.stored.Stored.{Stored}
use Rattle.volume_sets.specs.declared.sets.VolumeSet.{VolumeSet}
use Rattle.volume_sets.specs.Sets.{entries_of}
use Rattle.budb_fold.specs.declared.database.Database.{Database}
use Rattle.budb_fold.specs.Database.{after}
use Rattle.archive_model.specs.Archives.{Archive}
use Rattle.backup_words.specs.declared.command.RestoreCommand.{RestoreCommand}
use Rattle.backup_words.specs.declared.command.RestoredVolumes.{RestoredVolumes}
use Rattle.backup_words.specs.declared.command.RestoredVolumes.TheVariants.{One, OfDisk, OfSet}
use Rattle.restore_commands.specs.Answers.{Manner, RestoreAnswer, one_answer, disk_answer, set_answer}
use Rattle.restore_commands.specs.Choices.{disk_choices}
use Rattle.restore_commands.specs.Leaving.{MayPut, MayPutEach, MayPutNamed}
use Rattle.backup_session.specs.Worlds.{World, Turn, archive_of}
use Rattle.backup_session.specs.Turns.{said}

-- what is put behind the base names, and whether it is only told what would be restored; the volumes are made at the session's time
abbrev pub manner_at : ℕ → RestoreCommand → Manner
manner_at time command = record { extension = command.extension; time = time; is_trial = command.trial }

-- the answer of a restore, by which volumes it wants
abbrev pub volumes_answer : Archive → List VolumeSet → List Stored → Manner → RestoredVolumes → RestoreAnswer
volumes_answer a sets cell manner (One wanted) = one_answer a cell manner wanted
volumes_answer a sets cell manner (OfDisk disk) = disk_answer a cell manner disk
volumes_answer a sets cell manner (OfSet name) = set_answer a sets cell manner name

-- The answer of a command, over an archive and the volume sets of its database. A date was read as the first second behind its minute,
-- and the dumps before that second count.
abbrev pub restore_answer : Archive → List VolumeSet → List Stored → ℕ → RestoreCommand → RestoreAnswer
restore_answer a sets cell time command = volumes_answer a sets cell (manner_at time command) command.volumes

-- an answer, as a turn
abbrev pub restored : World → RestoreAnswer → Turn
restored w answer = record (said w answer.reply) { cells = answer.cells }

-- what a restore makes of a world
abbrev pub archive_turn : World → RestoreCommand → Turn
archive_turn w command = restored w (restore_answer (archive_of w) (after w.log).sets w.cell w.time command)

-- ---- whatever stands on the tapes

-- how a restore may leave the cell, by which volumes it wants
abbrev pub MayPutVolumes : Database → Manner → RestoredVolumes → List Stored → List Stored → Type 0
MayPutVolumes db manner (One wanted) old new = MayPut manner wanted old new
MayPutVolumes db manner (OfDisk disk) old new = MayPutEach manner (disk_choices db.listed disk) old new
MayPutVolumes db manner (OfSet name) old new = MayPutNamed manner db.listed (entries_of name db.sets) old new

-- How a restore may leave the cell also where the tapes hold no archive: for each wanted volume in turn, one volume is put under the name
-- that it gets, or none is; a trial puts none. What such a volume holds isn't said here.
abbrev pub MayRestore : Database → ℕ → RestoreCommand → List Stored → List Stored → Type 0
MayRestore db time command old new = MayPutVolumes db (manner_at time command) command.volumes old new
