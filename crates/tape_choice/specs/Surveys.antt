-- What is counted of the records of a tape, one after the other.
use Rattle.std.specs.Prelude.{◌≡◌, ℕ, ◌+◌, ◌-◌, ◌≤◌, ◌&&◌, ◌==◌, max, Bool, false, if◌then◌else◌, IsTrue, Option, Some, None, List, take, slice_get}
use Rattle.std.specs.List.{count_by}
use Rattle.std.specs.Option.{unwrap_or}
use Rattle.bk_text.specs.Alphabets.{IsTapeName}
use Rattle.byte_formats.specs.Forms.{IsMaybe}
use Rattle.tape_config.specs.declared.port.PortFields.{PortFields}
use Rattle.tape_frames.specs.declared.frame.Frame.{Frame}
use Rattle.tape_text.specs.Items.{Item}
use Rattle.tape_scan.specs.Slots.{Slot}
use Rattle.tape_writer.specs.Filling.{uses_in}
use Rattle.archive_model.specs.Holding.{place_of, is_so, is_label_frame, is_head_frame}
use Rattle.tape_choice.specs.declared.survey.Survey.{Survey}
use Rattle.tape_choice.specs.declared.reading.First.{First}
use Rattle.tape_choice.specs.declared.reading.First.TheVariants.{Blank, Label, Other}
use Rattle.tape_choice.specs.declared.places.Place.{Place}
use Rattle.tape_choice.specs.declared.places.Appending.{Appending}
use Rattle.tape_choice.specs.declared.places.Appending.TheVariants.{NoSet, NotFound, Found}
use Rattle.tape_choice.specs.Reads.{label_in}
use Rattle.tape_choice.specs.Choice.{permanent_in}
use Rattle.tape_choice.specs.Append.{is_mark, is_as_told, append_passes, uses_told, place_behind, LastPart}

-- how many filemarks are among these records, and the uses that they tell
abbrev pub survey_of : List Item → Survey
survey_of items = record { marks = count_by is_mark items; uses = uses_told items }

-- one item more
abbrev pub with_item : Survey → Item → Survey
with_item s i = record { marks = if is_mark i then s.marks + 1 else s.marks; uses = if s.uses == 0 then uses_in i else s.uses }

-- a number and the greatest of others, where there are these
abbrev pub joined : Option ℕ → Option ℕ → Option ℕ
joined None rest = rest
joined (Some n) rest = Some (max n (unwrap_or rest 0))

-- what a dump has on a tape is what its record names first for it
abbrev pub IsPlace : LastPart → Type 0
IsPlace l = place_of l.dump l.part.tape ≡ Some l.part

-- ---- a tape that is asked

-- a frame is the head of a dump's part on a tape
abbrev pub is_head_in : ℕ → ℕ → Option Frame → Bool
is_head_in id tape None = false
is_head_in id tape (Some f) = is_head_frame id tape f

-- the permanent name of a label of a dump set's tape
abbrev pub name_first : ℕ → ℕ → First → Option (List ℕ)
name_first initial tape Blank = None
name_first initial tape (Label a) = if (a.initial == initial) && (a.tape == tape) then Some a.permanent else None
name_first initial tape Other = None

-- that of a tape, where it is one of a dump set
abbrev pub name_of : ℕ → ℕ → List Item → Option (List ℕ)
name_of initial tape items = if is_so (is_label_frame initial tape) (slice_get items 0) then Some (permanent_in (label_in items)) else None

-- the head stands where the record says, the tape has no bad record, and it is as the record says: what is counted in front of the place
abbrev pub stands_on : LastPart → Bool → List Item → Option Survey
stands_on l whole items =
    if is_so (is_head_frame l.dump.id l.part.tape) (slice_get items l.part.first) && (whole && is_as_told l.part items) then Some (survey_of (take l.part.end items)) else None

-- a slot that is tried
abbrev pub place_at : LastPart → (ℕ → Bool) → ℕ → Slot → Option Place
place_at l whole k s = if append_passes l.dump l.part whole k s then Some (place_behind l.dump l.part k s.items) else None

-- the place after the last dump, in the slot that was found
abbrev pub place_in : LastPart → Option (ℕ × Slot) → Option Place
place_in l None = None
place_in l (Some (k, s)) = Some (place_behind l.dump l.part k s.items)

-- a place behind which a part may be put
pub record IsAppendable (present : ℕ → Bool) (port : PortFields) (p : Place) : Type 0 where
  pub here : IsTrue (present p.slot)
  pub first : port.first ≤ p.slot
  pub last : p.slot ≤ port.last
  pub initial : 1 ≤ p.initial
  pub tape : 1 ≤ p.tape
  pub marks : p.marks ≤ p.blocks
  pub end : p.blocks + p.marks ≡ p.end
  pub uses : 1 ≤ p.uses
  pub permanent : IsMaybe IsTapeName p.permanent

-- the place that was found, where one was, is one behind which a part may be put
abbrev pub IsFoundAppendable : (ℕ → Bool) → PortFields → Appending → Type 0
IsFoundAppendable present port NoSet = Unit {0}
IsFoundAppendable present port (NotFound base tape) = Unit {0}
IsFoundAppendable present port (Found p) = IsAppendable present port p

-- ---- a place, piece by piece

-- what is counted of the first records, where no record of the tape is bad and so many are filemarks
abbrev pub front_of : ℕ → ℕ → Bool → List Item → Option Survey
front_of end marks whole items = if whole && (count_by is_mark (take end items) == marks) then Some (survey_of (take end items)) else None

-- The place after a last part, by what was counted of the records up to it and by the permanent name on the label.
abbrev pub place_with : LastPart → ℕ → Survey → List ℕ → Place
place_with l slot seen permanent = record {
  slot = slot;
  initial = l.dump.initial;
  tape = l.part.tape;
  base = l.dump.base;
  end = l.part.end;
  marks = l.part.marks;
  blocks = l.part.end - l.part.marks;
  uses = if seen.uses == 0 then 1 else seen.uses;
  permanent = permanent;
}

-- the same where the records could be counted
abbrev pub behind_with : LastPart → ℕ → List ℕ → Option Survey → Option Place
behind_with l slot permanent None = None
behind_with l slot permanent (Some seen) = Some (place_with l slot seen permanent)

-- what is so of a place whatever stands on the tape
pub record IsBehind (l : LastPart) (k : ℕ) (name : List ℕ) (p : Place) : Type 0 where
  pub slot : p.slot ≡ k
  pub initial : p.initial ≡ l.dump.initial
  pub tape : p.tape ≡ l.part.tape
  pub some : 1 ≤ p.tape
  pub marks : p.marks ≤ p.blocks
  pub end : p.blocks + p.marks ≡ p.end
  pub uses : 1 ≤ p.uses
  pub permanent : p.permanent ≡ name

-- A place in this slot: its dump set and its tape count from 1, its records are its blocks and its marks, no more marks than blocks, and
-- its uses count from 1.
pub record IsPut (k : ℕ) (p : Place) : Type 0 where
  pub slot : p.slot ≡ k
  pub initial : 1 ≤ p.initial
  pub tape : 1 ≤ p.tape
  pub marks : p.marks ≤ p.blocks
  pub end : p.blocks + p.marks ≡ p.end
  pub uses : 1 ≤ p.uses
  pub permanent : IsMaybe IsTapeName p.permanent

-- what was found, as it is answered: a place, or that the tape isn't found
abbrev pub told_of : LastPart → Option Place → Appending
told_of l None = NotFound l.dump.base l.part.tape
told_of l (Some p) = Found p
