-- WHAT A COMMAND ON TAPES MAKES OF A WORLD; of scans see Scanning.
use Rattle.std.specs.Prelude.{◌≡◌, ℕ, List, [], ◌∷◌, ◌++◌, Bool, ◌&&◌, nat_le, nat_lt, if◌then◌else◌, Option, Some, None, Result, Ok, Err, codes}
use Rattle.std.specs.List.{list_any}
use Rattle.std.specs.Option.{unwrap_or}
use Rattle.tape_config.specs.declared.port.PortFields.{PortFields}
use Rattle.tape_config.specs.Configs.{port_in}
use Rattle.plant_core.specs.Records.{Record, block_with, mark}
use Rattle.plant_core.specs.Effects.{Effect, commits, puts, settles, cuts}
use Rattle.tape_frames.specs.declared.label.LabelFields.{LabelFields}
use Rattle.tape_frames.specs.declared.frame.Frame.TheVariants.{Label}
use Rattle.tape_frames.specs.Frames.{spelling}
use Rattle.budb_changes.specs.declared.records.DumpRecordFields.{DumpRecordFields}
use Rattle.budb_changes.specs.declared.change.Change.{Change}
use Rattle.budb_changes.specs.declared.change.Change.TheVariants.{Take}
use Rattle.budb_changes.specs.Bytes.{encoded}
use Rattle.budb_fold.specs.declared.database.HostPort.{HostPort}
use Rattle.budb_fold.specs.Database.{after, has_port, is_initial}
use Rattle.backup_words.specs.declared.command.TapeCommand.{TapeCommand}
use Rattle.backup_words.specs.declared.command.TapeCommand.TheVariants.{Labeltape, Readlabel, Scantape, Savedb, Restoredb}
use Rattle.backup_replies.specs.declared.refusals.Refusal.TheVariants.{BadValue, NoSuchPort, SlotEmpty, NoLabel, LogFull}
use Rattle.backup_replies.specs.Texts.{refused_word, refused_number}
use Rattle.backup_replies.specs.Labels.{labeled_lines, label_lines}
use Rattle.backup_session.specs.Worlds.{Setting, World, Turn}
use Rattle.backup_session.specs.Turns.{said, length_with}
use Rattle.backup_session.specs.Labels.{label_of}
use Rattle.backup_session.specs.Scanning.{port_of, scan_turn}
use Rattle.backup_session.specs.Saves.{saved_turn, back_turn}

-- ---- where the tape is

-- one of the coordinator's slots, by default the first; a tape is in it
abbrev pub slot_in : (ℕ → Bool) → PortFields → ℕ → Result ℕ (List ℕ)
slot_in present port slot =
    if nat_le port.first slot && nat_le slot port.last then (if present slot then Ok slot else Err (refused_number SlotEmpty slot)) else Err (refused_word BadValue (codes "-slot"))

-- the slot that a command names, or the refusal of its port or of its slot
abbrev pub slot_at : (ℕ → Bool) → ℕ → Option PortFields → Option ℕ → Result ℕ (List ℕ)
slot_at present offset None slot = Err (refused_number NoSuchPort offset)
slot_at present offset (Some port) slot = slot_in present port (unwrap_or slot port.first)

-- The slot that a command names, or the reply that refuses it: the port has a tape host and a line in the configuration.
abbrev pub slot_of : Setting → List HostPort → ℕ → Option ℕ → Result ℕ (List ℕ)
slot_of setting hosts offset slot =
    if has_port hosts offset then slot_at setting.present offset (port_in offset setting.config.entries) slot else Err (refused_number NoSuchPort offset)

-- ---- a label is read

-- the lines of a tape's label, or the refusal that it has none
abbrev pub label_reply : ℕ → Option LabelFields → List ℕ
label_reply slot None = refused_number NoLabel slot
label_reply slot (Some a) = label_lines a.afs a.permanent a.initial a.tape slot

-- what `readlabel` makes of a world
abbrev pub read_turn : World → Result ℕ (List ℕ) → Turn
read_turn w (Err text) = said w text
read_turn w (Ok slot) = said w (label_reply slot (label_of (w.state.tape slot)))

-- ---- a tape is labeled

-- the permanent name of a label, and nothing where there is none
abbrev pub permanent_of : Option LabelFields → List ℕ
permanent_of None = []
permanent_of (Some a) = a.permanent

-- The new label carries no dump. A permanent name that the old label has stays, unless another one is given; the AFS name is empty
-- where none is given.
abbrev pub new_label : Option LabelFields → Option (List ℕ) → Option (List ℕ) → LabelFields
new_label old name pname = record { initial = 0; tape = 0; afs = unwrap_or name []; permanent = unwrap_or pname (permanent_of old) }

-- a listed dump of the old label's initial id is forgotten, with all of its dump set
abbrev pub taken : List DumpRecordFields → Option LabelFields → List Change
taken listed None = []
taken listed (Some a) = if list_any (is_initial a.initial) listed then Take a.initial ∷ [] else []

-- the tape is cut to nothing, and the label is put, and a mark
abbrev pub putting_label : ℕ → LabelFields → List Effect
putting_label slot a = cuts slot 0 ∷ (puts slot (block_with (spelling (Label a))) ∷ (puts slot mark ∷ (settles slot ∷ [])))

-- The journal is committed before the tape is cut.
abbrev pub labeled : World → ℕ → LabelFields → List Change → Turn
labeled w slot a [] = record (said w (labeled_lines a.afs a.permanent slot)) { effects = putting_label slot a }
labeled w slot a (change ∷ changes) =
    if nat_lt 268435456 (length_with w (change ∷ changes)) then said w (refused_number LogFull (length_with w (change ∷ changes)))
    else record (said w (labeled_lines a.afs a.permanent slot)) { effects = commits (encoded (change ∷ changes)) ∷ putting_label slot a; log = w.log ++ change ∷ changes }

-- what `labeltape` makes of a world
abbrev pub label_turn : World → Option (List ℕ) → Option (List ℕ) → Result ℕ (List ℕ) → Turn
label_turn w name pname (Err text) = said w text
label_turn w name pname (Ok slot) = labeled w slot (new_label (label_of (w.state.tape slot)) name pname) (taken (after w.log).listed (label_of (w.state.tape slot)))

-- ---- the commands

-- what a command on tapes makes of a world
abbrev pub tape_turn : World → TapeCommand → Turn
tape_turn w (Labeltape name pname offset slot) = label_turn w name pname (slot_of w.setting (after w.log).hosts offset slot)
tape_turn w (Readlabel offset slot) = read_turn w (slot_of w.setting (after w.log).hosts offset slot)
tape_turn w (Scantape dbadd offset) = scan_turn w dbadd (port_of w.setting.config (after w.log).hosts offset)
tape_turn w (Savedb offset) = saved_turn w (port_of w.setting.config (after w.log).hosts offset)
tape_turn w (Restoredb offset) = back_turn w (port_of w.setting.config (after w.log).hosts offset)

-- ---- inside the crate

-- a tape without records
abbrev pub IsBlank : List Record → Type 0
IsBlank tape = tape ≡ []
