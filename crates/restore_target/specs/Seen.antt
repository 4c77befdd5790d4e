-- What is seen of a cell's list by its entries.
use Rattle.std.specs.Prelude.{ℕ, List, Bool, Option, Some, None}
use Rattle.std.specs.Ordering.{is_eq}
use Rattle.vnode_model.specs.declared.listed.EntryState.{EntryState}
use Rattle.vnode_model.specs.declared.listed.EntryState.TheVariants as state
use Rattle.cell_core.specs.declared.stored.Stored.{Stored}
use Rattle.cell_core.specs.declared.standing.Standing.{Standing}
use Rattle.cell_core.specs.declared.standing.Standing.TheVariants as standing
use Rattle.cell_core.specs.Cells.{standing_of}
use Rattle.cell_core.specs.Listings.{name_order}
use Rattle.restore_target.specs.declared.looking.Seen.{Seen}

-- the name of an entry
abbrev pub name_of : Seen → List ℕ
name_of s = s.name

-- how the volume of an entry stands
abbrev pub standing_seen : Seen → Standing
standing_seen s = s.standing

-- what an entry tells
abbrev pub standing_by : EntryState → Standing
standing_by (state.Good id kind latest) = standing.Volume id kind
standing_by (state.Bad at) = standing.Bad at

-- what an entry of a cell's list shows: its name, and how the volume stands there
abbrev pub seen_of : Stored → Seen
seen_of s = record { name = s.name; standing = standing_of s }

-- an entry of exactly this name
abbrev pub is_named : List ℕ → Seen → Bool
is_named name s = is_eq (name_order s.name name)

-- how the volume stands, where the entry is there
abbrev pub standing_in : Option Seen → Option Standing
standing_in None = None
standing_in (Some s) = Some s.standing
