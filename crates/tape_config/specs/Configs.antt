-- What the lines of a configuration say together.
use Rattle.std.specs.Prelude.{◌≡◌, ◌⊎◌, ℕ, ◌+◌, List, [], ◌∷◌, ◌++◌, Bool, true, false, ◌&&◌, ◌==◌, nat_le, min, if◌then◌else◌, Option, Some, None, Result, Ok, Err}
use Rattle.std.specs.List.{list_any, fold}
use Rattle.std.specs.Str.Lines.{lines}
use Rattle.tape_config.specs.declared.line.DeviceLine.{DeviceLine}
use Rattle.tape_config.specs.declared.line.Entry.{Entry}
use Rattle.tape_config.specs.declared.line.Entry.TheVariants.{Device, NameCheck}
use Rattle.tape_config.specs.declared.line.Line.{Line}
use Rattle.tape_config.specs.declared.line.Line.TheVariants.{Nothing, Says}
use Rattle.tape_config.specs.declared.port.PortFields.{PortFields}
use Rattle.tape_config.specs.declared.fault.ConfigFault.{ConfigFault}
use Rattle.tape_config.specs.declared.fault.ConfigFault.TheVariants.{BadLine, PortTwice, SlotTwice, Memory}
use Rattle.tape_config.specs.Lines.{line_says, cell_of}

-- the entries of a configuration in order, and the name of its cell where a line says it
pub record Settings : Type 0 where
  pub entries : List Entry
  pub cell : Option (List ℕ)

-- a device line of this port
abbrev pub has_port : ℕ → Entry → Bool
has_port offset (Device d) = d.offset == offset
has_port offset (NameCheck _ _) = false

-- a device line with some slot from the first to the last of these
abbrev pub has_slot : ℕ → ℕ → Entry → Bool
has_slot first last (Device d) = nat_le d.first last && nat_le first d.last
has_slot first last (NameCheck _ _) = false

-- A device line behind those before it: its port has no other one, and its slots none of theirs.
abbrev pub next_device : ℕ → List Entry → DeviceLine → Result (List Entry) ConfigFault
next_device number before d =
    if list_any (has_port d.offset) before then Err (PortTwice number) else
    if list_any (has_slot d.first d.last) before then Err (SlotTwice number) else Ok (before ++ Device d ∷ [])

-- A line of a port behind those before it, at its number. A line that says nothing leaves nothing.
abbrev pub next_entry : ℕ → List Entry → Option Line → Result (List Entry) ConfigFault
next_entry number before None = Err (BadLine number)
next_entry number before (Some Nothing) = Ok before
next_entry number before (Some (Says (Device d))) = next_device number before d
next_entry number before (Some (Says (NameCheck offset on))) = Ok (before ++ NameCheck offset on ∷ [])

-- The cell's name behind the lines before it: a second one has no form.
abbrev pub next_cell : ℕ → Option (List ℕ) → List ℕ → Result (Option (List ℕ)) ConfigFault
next_cell number None name = Ok (Some name)
next_cell number (Some before) name = Err (BadLine number)

-- the settings with these entries in place of their own, or the fault that was found instead
abbrev pub with_entries : Settings → Result (List Entry) ConfigFault → Result Settings ConfigFault
with_entries before (Ok entries) = Ok (record before { entries = entries })
with_entries before (Err fault) = Err fault

-- the settings with this name of the cell in place of their own, or the fault that was found instead
abbrev pub with_cell : Settings → Result (Option (List ℕ)) ConfigFault → Result Settings ConfigFault
with_cell before (Ok cell) = Ok (record before { cell = cell })
with_cell before (Err fault) = Err fault

-- a line behind those before it, at its number
abbrev pub next_line : ℕ → Settings → Option (List ℕ) → Option Line → Result Settings ConfigFault
next_line number before (Some name) line = with_cell before (next_cell number before.cell name)
next_line number before None line = with_entries before (next_entry number before.entries line)

-- the number of the next line; none is told above 4,294,967,295
abbrev pub next_number : ℕ → ℕ
next_number number = min (number + 1) 4294967295

-- lines one behind another, up to the first faulty one
abbrev pub lines_say : ℕ → Settings → List (List ℕ) → Result Settings ConfigFault
lines_say number before [] = Ok before
lines_say number before (line ∷ rest) = elim (next_line number before (cell_of line) (line_says line)) [ Ok after ↦ lines_say (next_number number) after rest | Err fault ↦ Err fault ]

-- what a configuration without lines says: no entries, and no name of a cell
abbrev pub no_settings : Settings
no_settings = record { entries = []; cell = None }

-- What a configuration says: its lines count from 1. A line ends at a line feed, which takes one carriage return in
-- front of it away, or at the end.
abbrev pub config_of : List ℕ → Result Settings ConfigFault
config_of bytes = lines_say 1 no_settings (lines bytes)

-- the settings are kept, or the first fault is told, unless memory runs out
abbrev pub ParsesConfig : List ℕ → Result Settings ConfigFault → Type 0
ParsesConfig bytes (Ok kept) = config_of bytes ≡ Ok kept
ParsesConfig bytes (Err fault) = (config_of bytes ≡ Err fault) ⊎ (fault ≡ Memory)

-- settings that some configuration says
pub record IsConfig (settings : Settings) : Type 0 where
  pub bytes : List ℕ
  pub says : config_of bytes ≡ Ok settings

-- this device line, where it is of this port
abbrev pub device_if : ℕ → Entry → Option DeviceLine
device_if offset (Device d) = if d.offset == offset then Some d else None
device_if offset (NameCheck _ _) = None

-- the first device line where there is one, else the other; None where there is neither
abbrev pub or_else : Option DeviceLine → Option DeviceLine → Option DeviceLine
or_else (Some d) other = Some d
or_else None other = other

-- the device line of a port
abbrev pub device_at : ℕ → List Entry → Option DeviceLine
device_at offset [] = None
device_at offset (entry ∷ rest) = or_else (device_if offset entry) (device_at offset rest)

-- what a line leaves of name checking at a port
abbrev pub check_after : ℕ → Bool → Entry → Bool
check_after offset on (NameCheck port said) = if port == offset then said else on
check_after offset on (Device _) = on

-- name checking at a port: the last line on it holds, and it is on where there is none
abbrev pub checks_names : ℕ → List Entry → Bool
checks_names offset entries = fold (check_after offset) true entries

-- the port at this offset, with its device line's slots and sizes in bytes; None where no device line has the offset
abbrev pub port_with : ℕ → Bool → Option DeviceLine → Option PortFields
port_with offset on None = None
port_with offset on (Some d) = Some (record { offset = offset; capacity = d.capacity; filemark = d.filemark; first = d.first; last = d.last; name_check = on })

-- a port as its lines say it
abbrev pub port_in : ℕ → List Entry → Option PortFields
port_in offset entries = port_with offset (checks_names offset entries) (device_at offset entries)

-- the name of the cell, or nothing
abbrev pub name_or_nothing : Option (List ℕ) → List ℕ
name_or_nothing (Some name) = name
name_or_nothing None = []
