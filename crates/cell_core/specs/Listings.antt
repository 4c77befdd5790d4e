-- What a cell's list decides by the names, the ids and the types of its volumes alone, whatever else it has of them: what
-- stands under a name, whether a volume is free, and which id a volume gets.
use Rattle.std.specs.Prelude.{ℕ, ◌+◌, ◌-◌, ◌*◌, ◌/◌, ◌^◌, max, nat_lt, nat_le, ◌==◌, Bool, false, not, if◌then◌else◌, Option, Some, None, List, length, map, fold}
use Rattle.std.specs.declared.cmp.Ordering.{Ordering}
use Rattle.std.specs.Ordering.{nat_cmp}
use Rattle.std.specs.Cmp.Lexicographic.{slice_cmp}
use Rattle.cell_core.specs.declared.standing.Standing.{Standing}
use Rattle.cell_core.specs.declared.standing.Standing.TheVariants.{Volume, Bad}

-- the byte order of names
abbrev pub name_order : List ℕ → List ℕ → Ordering
name_order = slice_cmp nat_cmp

-- the most that a cell's list may have, volumes and bad images together
abbrev pub most_volumes : ℕ
most_volumes = 65536

-- no volume is free
abbrev pub is_full : {A : Type 0} → List A → Bool
is_full all = nat_le most_volumes (length all)

-- Bad images have no id; 0 is below all that count.
abbrev pub id_of : Standing → ℕ
id_of (Volume id kind) = id
id_of (Bad at) = 0

-- a volume of this type
abbrev pub has_kind : ℕ → Standing → Bool
has_kind wanted (Volume id kind) = kind == wanted
has_kind wanted (Bad at) = false

-- a volume that isn't read/write
abbrev pub is_not_read_write : Standing → Bool
is_not_read_write (Volume id kind) = not (kind == 0)
is_not_read_write (Bad at) = false

-- the least of 536,870,912, 536,870,915 and so on, three by three, that is greater than this one
abbrev pub id_after : ℕ → ℕ
id_after id = if nat_lt id 536870912 then 536870912 else (536870912 + 3 * ((id - 536870912) / 3 + 1))

module _ {A : Type 0} (standing_of : A → Standing) where
  abbrev pub greatest_id : List A → ℕ
  greatest_id all = fold max 0 (map (λ a. id_of (standing_of a)) all)

  -- the least id of that row that is greater than all of the list; none is free where it isn't below 2^32
  abbrev pub free_id : List A → Option ℕ
  free_id all = let id = id_after (greatest_id all) in if nat_lt id (2 ^ 32) then Some id else None

  -- the id of a volume under a new name: none where no volume or no id is free
  abbrev pub new_id : List A → Option ℕ
  new_id all = if is_full all then None else free_id all

  -- The id of a backup volume: that of the volume which has its name, or a new one.
  abbrev pub id_over : Standing → List A → Option ℕ
  id_over (Volume id kind) all = Some id
  id_over (Bad at) all = free_id all

  abbrev pub backup_id_where : Option A → List A → Option ℕ
  backup_id_where (Some old) all = id_over (standing_of old) all
  backup_id_where None all = new_id all
