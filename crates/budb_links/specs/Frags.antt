-- The fragments of the volumes of records, each at a place.
use Rattle.std.specs.Prelude.{ℕ, zero, suc, ◌+◌, List, [], ◌∷◌, ◌++◌, length, map, not, ◌==◌, if◌then◌else◌, Option, Some, None}
use Rattle.std.specs.List.{filter}
use Rattle.std.specs.Int.{w32, to_be_bytes}
use Rattle.bk_text.specs.Blanks.{is_same_text}
use Rattle.budb_changes.specs.declared.records.VolRecordFields.{VolRecordFields}
use Rattle.budb_changes.specs.declared.records.DumpRecordFields.{DumpRecordFields}
use Rattle.budb_links.specs.declared.frags.FragPlace.{FragPlace}

-- a fragment: which one of its record it is, and the name of its volume
pub record Fragment : Type 0 where
  pub which : FragPlace
  pub name : List ℕ

-- a fragment, and its place
pub record Placed : Type 0 where
  pub place : ℕ
  pub fragment : Fragment

-- a dump's id, the index of a volume in its record, and the index of a fragment in the volume; indexes are from 0 on
abbrev pub frag_place : ℕ → ℕ → ℕ → FragPlace
frag_place id volume frag = record { id = id; volume = volume; frag = frag }

-- which fragment it is of its record, with the name of its volume
abbrev pub fragment_of : FragPlace → List ℕ → Fragment
fragment_of which name = record { which = which; name = name }

-- a fragment of a volume, standing at a place
abbrev pub placed_at : ℕ → Fragment → Placed
placed_at place fragment = record { place = place; fragment = fragment }

-- so many fragments of a volume, from an index on
abbrev pub volume_frags : ℕ → ℕ → List ℕ → ℕ → ℕ → List Fragment
volume_frags id volume name frag zero = []
volume_frags id volume name frag (suc count) =
    fragment_of (frag_place id volume frag) name ∷ volume_frags id volume name (frag + 1) count

-- the fragments of volumes, from an index on
abbrev pub volumes_frags : ℕ → ℕ → List VolRecordFields → List Fragment
volumes_frags id volume [] = []
volumes_frags id volume (v ∷ vs) = volume_frags id volume v.name 0 (length v.frags) ++ volumes_frags id (volume + 1) vs

-- the fragments of a record, volume by volume
abbrev pub dump_frags : DumpRecordFields → List Fragment
dump_frags dump = volumes_frags dump.id 0 dump.volumes

-- those of records, record by record
abbrev pub frags_of : List DumpRecordFields → List Fragment
frags_of [] = []
frags_of (dump ∷ dumps) = dump_frags dump ++ frags_of dumps

-- how many fragments a record has that may be wanting
abbrev pub count_frags : Option DumpRecordFields → ℕ
count_frags None = 0
count_frags (Some dump) = length (dump_frags dump)

-- the fragments alone, and their places
abbrev pub fragments : List Placed → List Fragment
fragments = map (λ p. p.fragment)

-- the places of the fragments, in the same order
abbrev pub frag_places : List Placed → List ℕ
frag_places = map (λ p. p.place)

-- the fragments of a dump, by its id in four bytes, and those of volumes of a name
abbrev pub of_dump : List ℕ → List Placed → List Placed
of_dump key = filter (λ p. is_same_text (to_be_bytes w32 p.fragment.which.id) key)

-- the fragments of all volumes of a name, in whichever dumps; the key is the name's bytes
abbrev pub of_volume : List ℕ → List Placed → List Placed
of_volume key = filter (λ p. is_same_text p.fragment.name key)

-- all fragments but those of a dump
abbrev pub without_dump : ℕ → List Placed → List Placed
without_dump id = filter (λ p. not (p.fragment.which.id == id))

-- the fragment at a place
abbrev pub frag_at : ℕ → List Placed → Option FragPlace
frag_at place [] = None
frag_at place (p ∷ ps) = if p.place == place then Some p.fragment.which else frag_at place ps
