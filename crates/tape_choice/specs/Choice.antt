-- Which tape a dump takes: the rules of this project.
use Rattle.std.specs.Prelude.{ℕ, Bool, true, false, not, ◌&&◌, ◌||◌, ◌==◌, nat_le, nat_lt, if◌then◌else◌, Option, Some, None, zero, suc, List, [], ◌∷◌, length, map, find}
use Rattle.std.specs.List.{list_any}
use Rattle.bk_text.specs.Blanks.{is_same_text}
use Rattle.tape_config.specs.declared.port.PortFields.{PortFields}
use Rattle.tape_frames.specs.declared.label.LabelFields.{LabelFields}
use Rattle.budb_changes.specs.declared.change.Change.{Change}
use Rattle.budb_changes.specs.declared.change.Change.TheVariants.{Take}
use Rattle.budb_changes.specs.declared.records.DumpRecordFields.{DumpRecordFields}
use Rattle.budb_fold.specs.Database.{is_initial}
use Rattle.budb_fold.specs.Lookups.{record_of}
use Rattle.tape_text.specs.Items.{Item}
use Rattle.tape_scan.specs.Slots.{Slot}
use Rattle.archive_model.specs.Holding.{numbered_from}
use Rattle.tape_choice.specs.declared.wanting.Wanting.{Wanting}
use Rattle.tape_choice.specs.declared.choosing.Chosen.{Chosen}
use Rattle.tape_choice.specs.Reads.{label_in}

-- ---- which labels pass

-- A dump is unexpired where it never expires, or expires later than at this time. Without an expiration it is never unexpired.
abbrev pub is_unexpired : ℕ → DumpRecordFields → Bool
is_unexpired time d = (d.expires == 4294967295) || nat_lt time d.expires

-- some listed dump of a dump set is unexpired; the dump set is told by its initial id
abbrev pub has_unexpired : List DumpRecordFields → ℕ → ℕ → Bool
has_unexpired listed time initial = list_any (λ d. is_initial initial d && is_unexpired time d) listed

-- the label has no AFS name or the wanted one, or names aren't checked
abbrev pub fits_name : Wanting → List ℕ → Bool
fits_name w afs = not w.checked || ((length afs == 0) || is_same_text afs w.name)

-- this dump set itself, or one in which a dump of the chain of the dump's parents lies
abbrev pub is_own : Wanting → ℕ → Bool
is_own w initial = (w.initial == initial) || list_any (λ p. p == initial) w.parents

-- A label passes where its AFS name fits, no listed dump of its dump set is unexpired, and its dump set is neither this one nor one of
-- the dump's parents.
abbrev pub label_passes : List DumpRecordFields → Wanting → LabelFields → Bool
label_passes listed w a = fits_name w a.afs && (not (has_unexpired listed w.time a.initial) && not (is_own w a.initial))

-- the same of a first record: one that is no label doesn't pass
abbrev pub passes_with : List DumpRecordFields → Wanting → Option LabelFields → Bool
passes_with listed w None = false
passes_with listed w (Some a) = label_passes listed w a

-- the tape has no records, or its first record is a label that passes
abbrev pub tape_passes : List DumpRecordFields → Wanting → List Item → Bool
tape_passes listed w [] = true
tape_passes listed w (i ∷ is) = passes_with listed w (label_in (i ∷ is))

-- ---- which slot is chosen

-- this dump has taken the slot already
abbrev pub is_used : Wanting → ℕ → Bool
is_used w k = list_any (λ used. used == k) w.used

-- a slot passes: it is here, this dump hasn't taken it, and its tape passes
abbrev pub slot_passes : List DumpRecordFields → Wanting → ℕ → Slot → Bool
slot_passes listed w k s = s.here && (not (is_used w k) && tape_passes listed w s.items)

-- a slot of a coordinator: from its first to its last, both counted
abbrev pub is_among : PortFields → ℕ → Bool
is_among port k = nat_le port.first k && nat_le k port.last

-- The least of a coordinator's slots that passes, with its number. (Where the number of the wanted tape is above 4,294,967,295 no slot
-- passes: there is no such name to want.)
abbrev pub chosen : List DumpRecordFields → Wanting → PortFields → List Slot → Option (ℕ × Slot)
chosen listed w port slots = find (λ x. is_among port x.0 && slot_passes listed w x.0 x.1) (numbered_from 0 slots)

-- ---- what taking a tape means

-- the dump set that is forgotten when a tape with this label is taken: that of the label's initial id, where some dump of it is listed
abbrev pub forgotten : List DumpRecordFields → Option LabelFields → Option ℕ
forgotten listed None = None
forgotten listed (Some a) = if list_any (is_initial a.initial) listed then Some a.initial else None

-- the change that forgets this dump set; none where there is none to forget
abbrev pub takes : Option ℕ → List Change
takes None = []
takes (Some initial) = Take initial ∷ []

-- the permanent name of a label, which a new label keeps; nothing where there is no label
abbrev pub permanent_in : Option LabelFields → List ℕ
permanent_in None = []
permanent_in (Some a) = a.permanent

-- what is known of a slot that was chosen
abbrev pub taking : List DumpRecordFields → ℕ → List Item → Chosen
taking listed k items = record { slot = k; label = label_in items; take = forgotten listed (label_in items) }

-- what is known of the slot that was chosen; nothing where none was
abbrev pub choice_of : List DumpRecordFields → Option (ℕ × Slot) → Option Chosen
choice_of listed None = None
choice_of listed (Some (k, s)) = Some (taking listed k s.items)

-- a tape that is tried, and a slot: what is known of it where it passes
abbrev pub tape_choice : List DumpRecordFields → Wanting → ℕ → List Item → Option Chosen
tape_choice listed w k items = if tape_passes listed w items then Some (taking listed k items) else None

-- what is known of a slot, where the slot passes
abbrev pub choice_at : List DumpRecordFields → Wanting → ℕ → Slot → Option Chosen
choice_at listed w k s = if slot_passes listed w k s then Some (taking listed k s.items) else None

-- ---- the chain of a dump's parents

-- this dump, its parent and so on, as far as they are listed, at most so many
abbrev pub upwards : List DumpRecordFields → ℕ → Option DumpRecordFields → List DumpRecordFields
upwards listed zero d = []
upwards listed (suc n) None = []
upwards listed (suc n) (Some d) = d ∷ upwards listed n (record_of listed d.parent)

-- The listed dump of an id, that of its parent, and so on while they are listed. As many steps as dumps are listed are never too few,
-- since parents lie below their children.
abbrev pub parents_of : List DumpRecordFields → ℕ → List DumpRecordFields
parents_of listed parent = upwards listed (length listed) (record_of listed parent)

-- the dump sets in which they lie
abbrev pub initials_above : List DumpRecordFields → ℕ → List ℕ
initials_above listed parent = map (λ d. d.initial) (parents_of listed parent)
