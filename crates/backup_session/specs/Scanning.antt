-- WHAT A SCAN MAKES OF A WORLD: what stands on the coordinator's tapes that are here is told, and the dumps that are whole over them may
-- be added. Loading the tapes one after the other is no effect: by it more may be settled than the effects say.
use Rattle.std.specs.Prelude.{ℕ, ◌+◌, ◌-◌, max, List, [], ◌∷◌, ◌++◌, map, Bool, true, false, not, ◌&&◌, ◌||◌, ◌==◌, nat_lt, nat_le, if◌then◌else◌, Option, Some, None, Result, Ok, Err}
use Rattle.std.specs.List.{filter, flat_map, fold, list_all, range_with_len}
use Rattle.tape_config.specs.declared.port.PortFields.{PortFields}
use Rattle.tape_config.specs.Configs.{Settings, port_in}
use Rattle.plant_core.specs.Records.{Record}
use Rattle.plant_core.specs.Effects.{commits}
use Rattle.tape_scan.specs.declared.sections.Sections.{Sections}
use Rattle.tape_scan.specs.declared.assembling.PartId.{PartId}
use Rattle.tape_scan.specs.declared.assembling.Found.{Found}
use Rattle.tape_answers.specs.Scanning.{sections_of}
use Rattle.tape_answers.specs.Assembling.{found_in}
use Rattle.budb_changes.specs.declared.records.DumpRecordFields.{DumpRecordFields}
use Rattle.budb_changes.specs.declared.change.Change.TheVariants as change
use Rattle.budb_changes.specs.Bytes.{encoded}
use Rattle.budb_fold.specs.declared.database.HostPort.{HostPort}
use Rattle.budb_fold.specs.Database.{after, has_port, has_dump, is_whole}
use Rattle.backup_replies.specs.declared.refusals.Refusal.TheVariants.{NoSuchPort, BadTape, PartOfDump, DumpKnown, WrongParent, LogFull}
use Rattle.backup_replies.specs.Texts.{refused_number, refused_numbers, ok_line}
use Rattle.backup_replies.specs.Scans.{found_line, added_line}
use Rattle.backup_session.specs.Worlds.{World, Turn, before_reply}
use Rattle.backup_session.specs.Turns.{said, length_with}
use Rattle.backup_session.specs.Opening.{with_clones}

-- ---- which tapes

-- the port, or the refusal that no port has this offset
abbrev pub port_at : ℕ → Option PortFields → Result PortFields (List ℕ)
port_at offset None = Err (refused_number NoSuchPort offset)
port_at offset (Some port) = Ok port

-- The port that a command names, or the reply that refuses it: it has a tape host and a line in the configuration.
abbrev pub port_of : Settings → List HostPort → ℕ → Result PortFields (List ℕ)
port_of config hosts offset = if has_port hosts offset then port_at offset (port_in offset config.entries) else Err (refused_number NoSuchPort offset)

-- the slots of a coordinator that are here, in ascending order
abbrev pub slots_here : (ℕ → Bool) → PortFields → List ℕ
slots_here present port = filter present (range_with_len port.first (port.last + 1 - port.first))

-- what scans tell of their tapes
abbrev pub scans_of : (ℕ → List Record) → List ℕ → List Sections
scans_of tape slots = map (λ k. sections_of k (tape k)) slots

-- ---- what is told of them

-- a tape whose scan stops at a record
abbrev pub stopped_at : ℕ → Option ℕ → List ℕ
stopped_at slot None = []
stopped_at slot (Some place) = refused_numbers BadTape slot place

-- the line of a slot whose scan stops; nothing where it doesn't
abbrev pub stopped_line : Sections → List ℕ
stopped_line sections = stopped_at sections.slot sections.stop

-- a part of no whole dump
abbrev pub left_line : PartId → List ℕ
left_line part = refused_numbers PartOfDump part.id part.tape

-- ---- a found dump is added

-- A dump's parent is wrong where it isn't below the dump, and where there is none while some volume wasn't dumped whole.
abbrev pub has_wrong_parent : DumpRecordFields → Bool
has_wrong_parent dump = nat_le dump.id dump.parent || ((dump.parent == 0) && not (list_all is_whole dump.volumes))

-- the session's time takes in the id and the clone times of a record
abbrev pub time_with : ℕ → DumpRecordFields → ℕ
time_with time dump = with_clones (max time dump.id) dump

-- what is done of one dump, and whether the log had no room for it or for one before it
pub record Step : Type 0 where
  pub turn : Turn
  pub full : Bool

-- its record is one commit
abbrev pub recorded : World → DumpRecordFields → Turn
recorded w dump = record (said w (added_line dump.id)) { effects = commits (encoded (change.Found dump ∷ [])) ∷ []; log = w.log ++ change.Found dump ∷ []; time = time_with w.time dump }

-- a text is told and nothing else is done; the log's room stays as it was
abbrev pub says : World → Bool → List ℕ → Step
says w full text = record { turn = said w text; full = full }

-- where the log has room for it
abbrev pub added : World → DumpRecordFields → Step
added w dump =
    if nat_lt 268435456 (length_with w (change.Found dump ∷ [])) then says w true (refused_number LogFull (length_with w (change.Found dump ∷ [])))
    else record { turn = recorded w dump; full = false }

-- A dump is added that isn't listed and whose parent isn't wrong, unless the log had no room for one before it.
abbrev pub added_if : World → Bool → DumpRecordFields → Step
added_if w full dump =
    if has_dump (after w.log).listed dump.id then says w full (refused_number DumpKnown dump.id)
    else (if has_wrong_parent dump then says w full (refused_numbers WrongParent dump.id dump.parent)
    else (if full then says w true [] else added w dump))

-- ---- all of them

-- one turn after the other, as one turn
abbrev pub then_turn : Turn → Turn → Turn
then_turn s t = record t { effects = s.effects ++ t.effects; reply = s.reply ++ t.reply; cells = [] }

-- a text in front of a turn's reply, and one behind it
abbrev pub with_front : List ℕ → Turn → Turn
with_front text t = record t { reply = text ++ t.reply }

-- a text behind a turn's reply
abbrev pub then_said : Turn → List ℕ → Turn
then_said t text = record t { reply = t.reply ++ text }

-- each dump has a line that tells that it was found
abbrev pub next_step : Step → DumpRecordFields → Step → Step
next_step so_far dump step = record { turn = then_turn so_far.turn (with_front (found_line dump) step.turn); full = step.full }

-- one found dump more: its line, and its record where it may be added
abbrev pub with_dump : World → Step → DumpRecordFields → Step
with_dump w so_far dump = next_step so_far dump (added_if (before_reply w so_far.turn) so_far.full dump)

-- found dumps are told, and each is added that may be, one after the other
unfoldable pub adding : World → List DumpRecordFields → Step
adding w dumps = fold (with_dump w) (says w false []) dumps

-- the found dumps are told, and each that may be is added where the command adds
abbrev pub dumps_turn : World → Bool → List DumpRecordFields → Turn
dumps_turn w dbadd dumps = if dbadd then (adding w dumps).turn else said w (flat_map found_line dumps)

-- ---- the command

-- Where scans of the tapes stop is told first, then the dumps that are whole over them, and last the parts that are left over.
abbrev pub tapes_turn : World → Bool → List Sections → Found → Turn
tapes_turn w dbadd tapes found = then_said (then_turn (said w (flat_map stopped_line tapes)) (dumps_turn w dbadd found.whole)) (flat_map left_line found.parts ++ ok_line)

-- what a scan makes of these slots
unfoldable pub slots_turn : World → Bool → List ℕ → Turn
slots_turn w dbadd slots = tapes_turn w dbadd (scans_of w.state.tape slots) (found_in (scans_of w.state.tape slots))

-- what a scan makes of a world: the port is refused, or its tapes that are here are scanned
abbrev pub scan_turn : World → Bool → Result PortFields (List ℕ) → Turn
scan_turn w dbadd (Err text) = said w text
scan_turn w dbadd (Ok port) = slots_turn w dbadd (slots_here w.setting.present port)
