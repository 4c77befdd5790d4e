-- Where a dump is appended: the rules of this project.
use Rattle.std.specs.Prelude.{◌↔◌, ℕ, ◌-◌, max, Bool, true, false, ◌&&◌, ◌==◌, nat_le, if◌then◌else◌, Option, Some, None, is_some, IsTrue, List, [], ◌∷◌, length, take, map, find}
use Rattle.std.specs.List.{filter, flat_map, count_by}
use Rattle.std.specs.Option.{unwrap_or}
use Rattle.bk_text.specs.Blanks.{is_same_text}
use Rattle.plant_core.specs.declared.plant.Plant.{Ghosts as Plant}
use Rattle.plant_core.specs.Records.{NoBad}
use Rattle.plant_effects.specs.Runs.{state_of}
use Rattle.tape_config.specs.declared.port.PortFields.{PortFields}
use Rattle.budb_changes.specs.declared.records.TapePart.{TapePart}
use Rattle.budb_changes.specs.declared.records.DumpRecordFields.{DumpRecordFields}
use Rattle.budb_fold.specs.Database.{is_dump, is_initial}
use Rattle.budb_fold.specs.Lookups.{greatest_id}
use Rattle.tape_text.specs.Items.{Item, Says, Filemark, Nothing}
use Rattle.tape_scan.specs.Slots.{Slot}
use Rattle.tape_writer.specs.Filling.{uses_in}
use Rattle.archive_model.specs.Holding.{place_of, holds, numbered_from}
use Rattle.tape_choice.specs.declared.places.Appending.{Appending}
use Rattle.tape_choice.specs.declared.places.Appending.TheVariants.{NoSet, NotFound, Found}
use Rattle.tape_choice.specs.declared.places.Place.{Place}
use Rattle.tape_choice.specs.Reads.{label_in}
use Rattle.tape_choice.specs.Choice.{is_among, permanent_in}

-- ---- the dump set, its last tape, and the last dump on that

-- the greatest of these numbers
abbrev pub greatest : List ℕ → Option ℕ
greatest [] = None
greatest (n ∷ ns) = Some (max n (unwrap_or (greatest ns) 0))

-- the first of these dumps that has this id
abbrev pub with_id : List DumpRecordFields → Option ℕ → Option DumpRecordFields
with_id ds None = None
with_id ds (Some id) = find (is_dump id) ds

-- of these dumps the one with the greatest id
abbrev pub latest_of : List DumpRecordFields → Option DumpRecordFields
latest_of ds = with_id ds (greatest_id ds)

-- The dump set that a dump of a volume set is appended to: that of the greatest initial id among the volume set's listed dumps.
abbrev pub append_set : List DumpRecordFields → List ℕ → Option ℕ
append_set listed set = greatest (map (λ d. d.initial) (filter (λ d. is_same_text d.set set) listed))

-- the numbers of the tapes that a dump lies on, where it is one of the dump set
abbrev pub tapes_in : ℕ → DumpRecordFields → List ℕ
tapes_in initial d = if is_initial initial d then map (λ p. p.tape) d.tapes else []

-- its tape: the last one that its listed dumps lie on
abbrev pub last_tape : List DumpRecordFields → ℕ → Option ℕ
last_tape listed initial = greatest (flat_map (tapes_in initial) listed)

-- a dump of the dump set that has a part on the tape of this number
abbrev pub lies_on : ℕ → ℕ → DumpRecordFields → Bool
lies_on initial tape d = is_initial initial d && is_some (place_of d tape)

-- the last listed dump of a tape: of those of the dump set that lie on it the one with the greatest id, whatever the order of recording
abbrev pub last_dump : List DumpRecordFields → ℕ → ℕ → Option DumpRecordFields
last_dump listed initial tape = latest_of (filter (lies_on initial tape) listed)

-- ---- the slot

-- a record is a filemark
abbrev pub is_mark : Item → Bool
is_mark (Says f) = false
is_mark Filemark = true
is_mark Nothing = false

-- The tape has as many records as the database says that the dump ends behind, among them as many filemarks as it says, and no
-- more of these than of other records.
abbrev pub is_as_told : TapePart → List Item → Bool
is_as_told p items = nat_le p.end (length items) && ((count_by is_mark (take p.end items) == p.marks) && nat_le p.marks (p.end - p.marks))

-- A slot passes: it is here, it holds the tape for the dump, the tape has no bad record, and it is as the database says.
abbrev pub append_passes : DumpRecordFields → TapePart → (ℕ → Bool) → ℕ → Slot → Bool
append_passes d p whole k s = s.here && (holds d p.tape s.items && (whole k && is_as_told p s.items))

-- The least of a coordinator's slots that passes; those that don't are passed by.
abbrev pub append_slot : DumpRecordFields → TapePart → PortFields → (ℕ → Bool) → List Slot → Option (ℕ × Slot)
append_slot d p port whole slots = find (λ x. is_among port x.0 && append_passes d p whole x.0 x.1) (numbered_from 0 slots)

-- the tapes of a plant that have no bad record
abbrev pub AreWhole : {D : Type 0} → Plant D → (ℕ → Bool) → D → Type 0
AreWhole P whole plant = (k : ℕ) → IsTrue (whole k) ↔ NoBad ((state_of P plant).tape k)

-- ---- what is found

-- the uses that the first head of version 2 tells; 0 where there is none, since such a head tells at least 1
abbrev pub uses_told : List Item → ℕ
uses_told [] = 0
uses_told (i ∷ is) = if uses_in i == 0 then uses_told is else uses_in i

-- the uses of a part that is appended behind so many records: those that they tell, or 1 where they tell none
abbrev pub uses_before : ℕ → List Item → ℕ
uses_before end items = if uses_told (take end items) == 0 then 1 else uses_told (take end items)

-- the place behind the last dump of a tape
abbrev pub place_behind : DumpRecordFields → TapePart → ℕ → List Item → Place
place_behind d p k items = record {
  slot = k;
  initial = d.initial;
  tape = p.tape;
  base = d.base;
  end = p.end;
  marks = p.marks;
  blocks = p.end - p.marks;
  uses = uses_before p.end items;
  permanent = permanent_in (label_in items);
}

-- The place after the last dump where a slot was found; else that the tape, told by the base and the number of its name, isn't found.
abbrev pub found_in : DumpRecordFields → TapePart → Option (ℕ × Slot) → Appending
found_in d p None = NotFound d.base p.tape
found_in d p (Some (k, s)) = Found (place_behind d p k s.items)

-- the last dump of a dump set's last tape, and what it has there
pub record LastPart : Type 0 where
  pub dump : DumpRecordFields
  pub part : TapePart

-- a dump with the part that it has on a tape, where it has one there
abbrev pub part_on : ℕ → DumpRecordFields → Option TapePart → Option LastPart
part_on tape d None = None
part_on tape d (Some p) = Some (record { dump = d; part = p })

-- the same of a dump that may be none
abbrev pub part_of : ℕ → Option DumpRecordFields → Option LastPart
part_of tape None = None
part_of tape (Some d) = part_on tape d (place_of d tape)

-- the last dump of a dump set's last tape, with its part there; none where the dump set has no tape
abbrev pub last_part_on : List DumpRecordFields → ℕ → Option ℕ → Option LastPart
last_part_on listed initial None = None
last_part_on listed initial (Some tape) = part_of tape (last_dump listed initial tape)

-- the last dump of the last tape of the dump set of this initial id, with its part there
abbrev pub last_part : List DumpRecordFields → ℕ → Option LastPart
last_part listed initial = last_part_on listed initial (last_tape listed initial)

-- Of a dump set no dump of which names a tape the tape is told by the number 0.
abbrev pub no_tape : Option DumpRecordFields → Appending
no_tape None = NoSet
no_tape (Some d) = NotFound d.base 0

-- Behind that part, in the least slot that passes; where the dump set has none, the tape isn't found.
abbrev pub appending_behind : List DumpRecordFields → PortFields → (ℕ → Bool) → List Slot → ℕ → Option LastPart → Appending
appending_behind listed port whole slots initial None = no_tape (latest_of (filter (is_initial initial) listed))
appending_behind listed port whole slots initial (Some l) = found_in l.dump l.part (append_slot l.dump l.part port whole slots)

-- to the dump set of this initial id; where there is none, there is nothing to append to
abbrev pub appending_to : List DumpRecordFields → PortFields → (ℕ → Bool) → List Slot → Option ℕ → Appending
appending_to listed port whole slots None = NoSet
appending_to listed port whole slots (Some initial) = appending_behind listed port whole slots initial (last_part listed initial)

-- Where a dump of a volume set is appended: nowhere, where no listed dump has the set; not, where no slot has the last tape of its dump
-- set as the database says; else behind the last listed dump of that tape.
abbrev pub appending : List DumpRecordFields → List ℕ → PortFields → (ℕ → Bool) → List Slot → Appending
appending listed set port whole slots = appending_to listed port whole slots (append_set listed set)
