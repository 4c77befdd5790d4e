-- Which slot the database is saved in, and from which one it is read back.
use Rattle.std.specs.Prelude.{ℕ, Bool, true, false, ◌&&◌, ◌||◌, ◌==◌, if◌then◌else◌, Option, Some, None, List, [], ◌∷◌, length, find}
use Rattle.bk_text.specs.Blanks.{is_same_text}
use Rattle.tape_config.specs.declared.port.PortFields.{PortFields}
use Rattle.tape_frames.specs.declared.label.LabelFields.{LabelFields}
use Rattle.tape_text.specs.Items.{Item}
use Rattle.tape_scan.specs.Slots.{Slot}
use Rattle.archive_model.specs.Holding.{numbered_from}
use Rattle.tape_choice.specs.Reads.{frame_of, label_from, label_in}
use Rattle.tape_choice.specs.Choice.{is_among}
use Rattle.budb_save.specs.Saves.{save_name}
use Rattle.budb_save.specs.declared.firsts.First.{First}
use Rattle.budb_save.specs.declared.firsts.First.TheVariants as firsts
use Rattle.budb_save.specs.declared.choosing.Wish.{Wish}
use Rattle.budb_save.specs.declared.choosing.Wish.TheVariants.{Saving, Reading}
use Rattle.budb_save.specs.declared.choosing.Picked.{Picked}

-- ---- what stands first on a tape

-- a label, or something that is none, which then stands first
abbrev pub first_from : Option LabelFields → First
first_from None = firsts.Other
first_from (Some a) = firsts.Label a

-- what stands first on a tape: nothing, a label, or any other record
abbrev pub first_of : List Item → First
first_of [] = firsts.Blank
first_of (i ∷ is) = first_from (label_from (frame_of i))

-- ---- which tapes fit

-- To save on: a label that carries no dump, and has no AFS name or that of saves. To read from: that name alone.
abbrev pub name_fits : Wish → List ℕ → Bool
name_fits Saving afs = (length afs == 0) || is_same_text afs save_name
name_fits Reading afs = is_same_text afs save_name

-- a label fits that is of no dump set, its first id being 0, and whose AFS name fits
abbrev pub label_fits : Wish → LabelFields → Bool
label_fits wish a = (a.initial == 0) && name_fits wish a.afs

-- a tape without records can be saved on
abbrev pub blank_fits : Wish → Bool
blank_fits Saving = true
blank_fits Reading = false

-- a tape fits by what stands first on it: a label that does, or nothing where it is saved on
abbrev pub first_fits : Wish → First → Bool
first_fits wish firsts.Blank = blank_fits wish
first_fits wish (firsts.Label a) = label_fits wish a
first_fits wish firsts.Other = false

-- a tape fits by its first record alone
abbrev pub tape_fits : Wish → List Item → Bool
tape_fits wish items = first_fits wish (first_of items)

-- the slot is here, and its tape fits
abbrev pub slot_fits : Wish → Slot → Bool
slot_fits wish s = s.here && tape_fits wish s.items

-- ---- which slot

-- THE CHOICE: the least of a coordinator's slots that fits, with its number.
abbrev pub picked : Wish → PortFields → List Slot → Option (ℕ × Slot)
picked wish port slots = find (λ x. is_among port x.0 && slot_fits wish x.1) (numbered_from 0 slots)

-- what is known of a slot that is picked: its number and the label of its tape, `None` where no label stands first
abbrev pub picking : ℕ → List Item → Picked
picking k items = record { slot = k; label = label_in items }

-- what is known of the slot that is picked; `None` where no slot fits
abbrev pub pick_of : Option (ℕ × Slot) → Option Picked
pick_of None = None
pick_of (Some (k, s)) = Some (picking k s.items)

-- a tape that is tried, and a slot
abbrev pub tape_pick : Wish → ℕ → List Item → Option Picked
tape_pick wish k items = if tape_fits wish items then Some (picking k items) else None

-- what is known of a slot of this number, counted from 0; `None` where it isn't here or its tape doesn't fit
abbrev pub pick_at : Wish → ℕ → Slot → Option Picked
pick_at wish k s = if slot_fits wish s then Some (picking k s.items) else None

-- the label that stands first; `None` where the tape has no records or another one is first
abbrev pub label_first : First → Option LabelFields
label_first firsts.Blank = None
label_first (firsts.Label a) = Some a
label_first firsts.Other = None
