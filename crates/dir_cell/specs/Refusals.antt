-- Why what is known of a folder's images refuses a call, by the rules of every cell's list.
use Rattle.std.specs.Prelude.{◌≡◌, ⊤, ℕ, ◌==◌, nat_lt, if◌then◌else◌, Option, Some, None, Result, Ok, Err, List, length}
use Rattle.cell_core.specs.declared.fault.CellFault.{CellFault}
use Rattle.cell_core.specs.declared.fault.CellFault.TheVariants.{Failed, NoVolume, VolumeExists, NoVnode, TooLarge, BadImage, Memory}
use Rattle.cell_core.specs.declared.standing.Standing.{Standing}
use Rattle.cell_core.specs.declared.standing.Standing.TheVariants.{Volume, Bad}
use Rattle.cell_core.specs.Listings.{new_id, backup_id_where}
use Rattle.cell_core.specs.Volumes.{backup_name}
use Rattle.dir_cell.specs.declared.known.Known.{Known}
use Rattle.dir_cell.specs.Catalogs.{standing_of, known_as}

-- no id is free
abbrev pub spent : Option ℕ → Option CellFault
spent (Some id) = None
spent None = Some TooLarge

-- a bad image refuses
abbrev pub bad_fault : Standing → Option CellFault
bad_fault (Volume id kind) = None
bad_fault (Bad at) = Some (BadImage at)

-- why no volume is stored where this is known under its name: a bad image, or a new name and no volume or id free
abbrev pub put_where : Option Known → List Known → Option CellFault
put_where (Some k) catalog = bad_fault k.standing
put_where None catalog = spent (new_id standing_of catalog)

-- why no volume is stored under this name; `None` where the list allows it
abbrev pub put_refusal : List ℕ → List Known → Option CellFault
put_refusal name catalog = put_where (known_as name catalog) catalog

-- why no volume is made where this is known under its name: it is there, or no volume or no id is free
abbrev pub create_where : Option Known → List Known → Option CellFault
create_where (Some k) catalog = Some VolumeExists
create_where None catalog = spent (new_id standing_of catalog)

-- why no new volume is made under this name; `None` where the list allows it
abbrev pub create_refusal : List ℕ → List Known → Option CellFault
create_refusal name catalog = create_where (known_as name catalog) catalog

-- what isn't a read/write volume refuses a change
abbrev pub change_fault : Standing → Option CellFault
change_fault (Volume id kind) = if kind == 0 then None else Some NoVolume
change_fault (Bad at) = Some (BadImage at)

-- why what is known under a name isn't changed: a bad image, or no read/write volume
abbrev pub change_where : Option Known → Option CellFault
change_where (Some k) = change_fault k.standing
change_where None = Some NoVolume

-- why the vnodes of this name's volume aren't changed; `None` where the list allows it
abbrev pub change_refusal : List ℕ → List Known → Option CellFault
change_refusal name catalog = change_where (known_as name catalog)

-- the id of a backup volume of this name: none where the name is too long, nor where none is free for it
abbrev pub id_for_backup : List ℕ → List Known → Option ℕ
id_for_backup name catalog = if nat_lt 31 (length name) then None else backup_id_where standing_of (known_as name catalog) catalog

-- why an image gets no backup volume with this id: `NoVolume` where it is a volume but not read/write; else
-- `TooLarge` without an id; else `BadImage` where it is bad
abbrev pub backup_fault : Standing → Option ℕ → Option CellFault
backup_fault (Volume id kind) free = if kind == 0 then spent free else Some NoVolume
backup_fault (Bad at) (Some id) = Some (BadImage at)
backup_fault (Bad at) None = Some TooLarge

-- why what is known under a name gets no backup volume with this id; `NoVolume` where nothing is
abbrev pub backup_where : Option Known → Option ℕ → Option CellFault
backup_where (Some k) free = backup_fault k.standing free
backup_where None free = Some NoVolume

-- why the volume of this name gets no backup volume; `None` where the list allows it
abbrev pub backup_refusal : List ℕ → List Known → Option CellFault
backup_refusal name catalog = backup_where (known_as name catalog) (id_for_backup (backup_name name) catalog)

-- why what is known under a name isn't removed: `NoVolume` where nothing is, and `None` for all else
abbrev pub remove_where : Option Known → Option CellFault
remove_where (Some k) = None
remove_where None = Some NoVolume

-- why what is known under this name isn't removed; `None` where the list allows it
abbrev pub remove_refusal : List ℕ → List Known → Option CellFault
remove_refusal name catalog = remove_where (known_as name catalog)

-- ---- answers

-- The refusal that is due is told, and no other. A call may fail, or find no memory, at any time.
abbrev pub IsDue : {T : Type 0} → Option CellFault → Result T CellFault → Type 0
IsDue due (Ok value) = due ≡ None
IsDue due (Err Failed) = ⊤
IsDue due (Err Memory) = ⊤
IsDue due (Err fault) = due ≡ Some fault

-- the same of a change of a volume's vnodes, which the volume itself may refuse where the list does not
abbrev pub IsDueToChange : {T : Type 0} → Option CellFault → Result T CellFault → Type 0
IsDueToChange due (Err NoVnode) = due ≡ None
IsDueToChange due (Err TooLarge) = due ≡ None
IsDueToChange due result = IsDue due result
