-- WHAT SAVING THE DATABASE AND READING IT BACK MAKE OF A WORLD. Saved, the changes of a checkpoint stand on a tape of their own, and the
-- journal stays. Read back, the changes that stand on a tape are one commit.
use Rattle.std.specs.Prelude.{ℕ, max, List, [], ◌∷◌, ◌++◌, length, Bool, ◌||◌, nat_lt, if◌then◌else◌, Option, Some, None, Result, Ok, Err}
use Rattle.tape_config.specs.declared.port.PortFields.{PortFields}
use Rattle.tape_choice.specs.Choice.{permanent_in}
use Rattle.plant_core.specs.Effects.{commits}
use Rattle.budb_changes.specs.declared.change.Change.{Change}
use Rattle.budb_changes.specs.Bytes.{encoded}
use Rattle.budb_fold.specs.Database.{after}
use Rattle.budb_save.specs.declared.choosing.Picked.{Picked}
use Rattle.budb_save.specs.declared.saving.Saved.{Saved}
use Rattle.budb_save.specs.declared.fault.SaveFault.{SaveFault}
use Rattle.budb_save.specs.declared.fault.SaveFault.TheVariants as faults
use Rattle.budb_save.specs.declared.fault.LoadFault.{LoadFault}
use Rattle.budb_save.specs.declared.fault.LoadFault.TheVariants as loads
use Rattle.budb_save.specs.Saves.{save_name, save_label}
use Rattle.budb_save.specs.Writing.{putting_save}
use Rattle.budb_save.specs.Saving.{saved_bytes, save_pick, load_pick, is_too_big}
use Rattle.budb_save.specs.Back.{is_unused}
use Rattle.budb_save.specs.ReadBack.{read_back}
use Rattle.backup_replies.specs.declared.refusals.Refusal.TheVariants.{NoTape, SaveTooBig, DatabaseInUse, NoSave, BadSave, LogFull}
use Rattle.backup_replies.specs.Texts.{refused_alone, refused_word, refused_number, refused_numbers}
use Rattle.backup_replies.specs.Saves.{saved_lines, back_lines}
use Rattle.backup_session.specs.Worlds.{World, Turn, archive_of}
use Rattle.backup_session.specs.Turns.{said, length_with}
use Rattle.backup_session.specs.Opening.{database_time}
use Rattle.backup_session.specs.Scanning.{port_of}

-- So many bytes have no room: the blocks and filemarks of their save pass the capacity of the port's tapes. No configuration gives more
-- than 4,000,000,000 bytes to a tape.
abbrev pub lacks_room : PortFields → ℕ → Bool
lacks_room port count = is_too_big port count || nat_lt 4000000000 count

-- these bytes stand on the tape of the slot that is picked, under a label that keeps its permanent name
abbrev pub saved_in_slot : World → Picked → List ℕ → Turn
saved_in_slot w p bytes = record (said w (saved_lines (length bytes) p.slot)) { effects = putting_save p.slot (save_label (permanent_in p.label)) bytes }

-- by the tape that is picked, where one is, and its capacity
abbrev pub saved_on : World → PortFields → List ℕ → Option Picked → Turn
saved_on w port bytes None = said w (refused_word NoTape save_name)
saved_on w port bytes (Some p) = if lacks_room port (length bytes) then said w (refused_number SaveTooBig port.offset) else saved_in_slot w p bytes

-- what `savedb` makes of a world: the port is refused, or the database is saved on one of its tapes that are here
abbrev pub saved_turn : World → Result PortFields (List ℕ) → Turn
saved_turn w (Err text) = said w text
saved_turn w (Ok port) = saved_on w port (saved_bytes (after w.log)) (save_pick port (archive_of w).slots)

-- ---- read back

-- the session's time takes in the ids and clone times that are read back
abbrev pub time_back : World → List Change → ℕ
time_back w changes = max w.time (database_time (after (w.log ++ changes)))

-- the changes are one commit
abbrev pub made_back : World → List Change → Turn
made_back w changes =
    record (said w (back_lines (length (after (w.log ++ changes)).listed))) { effects = commits (encoded changes) ∷ []; log = w.log ++ changes; time = time_back w changes }

-- what stands on the tape of a slot is no saved database, or its changes are made where the log has room for them
abbrev pub back_from : World → ℕ → Result (List Change) ℕ → Turn
back_from w slot (Err place) = said w (refused_numbers BadSave slot place)
back_from w slot (Ok changes) = if nat_lt 268435456 (length_with w changes) then said w (refused_number LogFull (length_with w changes)) else made_back w changes

-- by the tape that is picked, where one is
abbrev pub back_on : World → PortFields → Option Picked → Turn
back_on w port None = said w (refused_number NoSave port.offset)
back_on w port (Some p) = back_from w p.slot (read_back (w.state.tape p.slot))

-- What `restoredb` makes of a world: the port is refused, or the database is in use, or it is read back from one of its tapes that are here.
abbrev pub back_turn : World → Result PortFields (List ℕ) → Turn
back_turn w (Err text) = said w text
back_turn w (Ok port) = if is_unused (after w.log) then back_on w port (load_pick port (archive_of w).slots) else said w (refused_alone DatabaseInUse)

-- ---- what is read back

-- the changes that a tape has, where the log has room for them
abbrev pub room_for : World → Result (List Change) ℕ → Option (List Change)
room_for w (Err place) = None
room_for w (Ok changes) = if nat_lt 268435456 (length_with w changes) then None else Some changes

-- those of the tape that is picked
abbrev pub picked_back : World → Option Picked → Option (List Change)
picked_back w None = None
picked_back w (Some p) = room_for w (read_back (w.state.tape p.slot))

-- by the port
abbrev pub port_back : World → Result PortFields (List ℕ) → Option (List Change)
port_back w (Err text) = None
port_back w (Ok port) = if is_unused (after w.log) then picked_back w (load_pick port (archive_of w).slots) else None

-- THE CHANGES THAT ARE READ BACK by `restoredb` at a port; none where it is refused.
abbrev pub changes_back : World → ℕ → Option (List Change)
changes_back w offset = port_back w (port_of w.setting.config (after w.log).hosts offset)

-- ---- inside the crate

-- what is told of a save's answer at a port of this offset, where the outside didn't refuse and memory didn't run out
abbrev pub save_text : ℕ → Result Saved SaveFault → List ℕ
save_text offset (Ok saved) = saved_lines saved.bytes saved.slot
save_text offset (Err faults.NoTape) = refused_word NoTape save_name
save_text offset (Err faults.TooBig) = refused_number SaveTooBig offset
save_text offset (Err faults.Failed) = []
save_text offset (Err faults.Memory) = []

-- what is told where a database isn't read back at a port of this offset, where the outside didn't refuse and memory didn't run out
abbrev pub back_text : ℕ → LoadFault → List ℕ
back_text offset loads.InUse = refused_alone DatabaseInUse
back_text offset loads.NoSave = refused_number NoSave offset
back_text offset (loads.BadSave slot place) = refused_numbers BadSave slot place
back_text offset (loads.LogFull n) = refused_number LogFull n
back_text offset loads.Failed = []
back_text offset loads.Memory = []
