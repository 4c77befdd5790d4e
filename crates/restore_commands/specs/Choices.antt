-- Which volumes a command restores that names a partition or a volume set: base names, by their latest dumps.
use Rattle.std.specs.Prelude.{ℕ, List, [], ◌∷◌, Bool, true, false, ◌&&◌, if◌then◌else◌, Option, Some, None}
use Rattle.std.specs.List.{flat_map, list_any}
use Rattle.std.specs.Option.{unwrap_or}
use Rattle.bk_text.specs.Blanks.{is_same_text}
use Rattle.bk_text.specs.Patterns.{Item}
use Rattle.volume_sets.specs.declared.reading.State.TheVariants.{Start}
use Rattle.volume_sets.specs.Reading.{item_mind, read}
use Rattle.volume_sets.specs.Matching.{match_items}
use Rattle.volume_sets.specs.declared.sets.SetEntry.{SetEntry}
use Rattle.budb_changes.specs.declared.records.DumpRecordFields.{DumpRecordFields}
use Rattle.budb_fold.specs.Lookups.{VolumeDump, latest}
use Rattle.backup_words.specs.declared.command.Disk.{Disk}
use Rattle.backup_words.specs.declared.command.Wanted.{Wanted}
use Rattle.restore_commands.specs.Bases.{base_names}

-- ---- a partition

-- the volume lay there
abbrev pub lay_on : Disk → VolumeDump → Bool
lay_on disk one = is_same_text one.volume.server disk.server && is_same_text one.volume.partition disk.partition

-- the base name, where its latest dump names that server and that partition
abbrev pub disk_choice : Disk → List ℕ → Option VolumeDump → List Wanted
disk_choice disk name None = []
disk_choice disk name (Some one) =
    if lay_on disk one then record { name = name; before = None; server = unwrap_or disk.new_server disk.server; partition = unwrap_or disk.new_partition disk.partition } ∷ [] else []

-- Each base name whose latest dump names that server and that partition is wanted as it is now, at a new server, in a new partition, or where
-- it lay.
abbrev pub disk_choices : List DumpRecordFields → Disk → List Wanted
disk_choices listed disk = flat_map (λ name. disk_choice disk name (latest listed name None)) (base_names listed)

-- ---- a volume set

-- A test that tells whether a pattern matches a name: its items are read byte by byte, and match the whole. What it is to match stands
-- in `Rattle.volume_sets.specs.Expansions`.
abbrev pub matched_by : Option (List Item) → List ℕ → Bool
matched_by None name = false
matched_by (Some items) name = match_items items name

-- a pattern matches a name, as the test says that reads it byte by byte
unfoldable pub is_matched : List ℕ → List ℕ → Bool
is_matched pattern name = matched_by (read Start (item_mind 0) pattern) name

-- any server or partition, or exactly this one
abbrev pub is_any_or : Option (List ℕ) → List ℕ → Bool
is_any_or None found = true
is_any_or (Some wanted) found = is_same_text wanted found

-- an entry has the volume of this dump, by the server and the partition that it lay on and by its own name
abbrev pub suits : VolumeDump → SetEntry → Bool
suits one entry = is_any_or entry.server one.volume.server && (is_any_or entry.partition one.volume.partition && is_matched entry.pattern one.volume.name)

-- the base name, where some entry has the volume of its latest dump
abbrev pub set_choice : List SetEntry → List ℕ → Option VolumeDump → List Wanted
set_choice entries name None = []
set_choice entries name (Some one) = if list_any (suits one) entries then record { name = name; before = None; server = one.volume.server; partition = one.volume.partition } ∷ [] else []

-- each base name whose latest dump's server, partition and volume name some entry has, for the place where the volume lay
abbrev pub set_choices : List DumpRecordFields → List SetEntry → List Wanted
set_choices listed entries = flat_map (λ name. set_choice entries name (latest listed name None)) (base_names listed)
