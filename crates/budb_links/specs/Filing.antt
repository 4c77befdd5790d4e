-- How fragments are stored: each at its place, in the chain of its dump and in that of its volume's name.
use Rattle.std.specs.Prelude.{◌≡◌, ◌⊎◌, ℕ, ◌+◌, ◌-◌, ◌<◌, ◌≤◌, ◌^◌, List, [], ◌∷◌, ◌++◌, length, map, not, ◌==◌, Some, slice_get, vec_capacity}
use Rattle.std.specs.List.{filter, AllByRecursion}
use Rattle.std.specs.Int.{w32, to_be_bytes}
use Rattle.budb_changes.specs.declared.records.VolRecordFields.{VolRecordFields}
use Rattle.budb_changes.specs.declared.records.DumpRecordFields.{DumpRecordFields}
use Rattle.budb_links.specs.declared.frags.FragPlace.{FragPlace}
use Rattle.budb_links.specs.declared.frags.Frags.{Frags}
use Rattle.budb_links.specs.declared.keys.Keys.{Keys}
use Rattle.budb_links.specs.Stands.{Stand}
use Rattle.budb_links.specs.Entries.{Entry, dumps_of}
use Rattle.budb_links.specs.Frags.{Fragment, Placed, placed_at, dump_frags, frags_of, fragments, frag_places}
use Rattle.budb_links.specs.Keys.{numbers_in}
use Rattle.budb_links.specs.Stored.{slot_at, AreFree, DistinctIds}
use Rattle.budb_links.specs.Keyed.{Filed, Differ, chain_in, numbering, StoresKeys}

-- fragments stand by the name of their volume and by the id of their dump
abbrev pub filed_frag : Placed → Filed
filed_frag p = record { place = p.place; id = p.fragment.which.id; name = p.fragment.name; key_id = p.fragment.which.id }

-- each fragment as it stands by the name of its volume and by the id of its dump, in the same order
abbrev pub filed_frags : List Placed → List Filed
filed_frags = map filed_frag

-- a fragment stands at the place
abbrev pub HasFrag : ℕ → List Placed → Type 0
HasFrag place [] = ⊥
HasFrag place (p ∷ ps) = (p.place ≡ place) ⊎ HasFrag place ps

-- these fragments are stored: each at its place and in its chains; all other places are free
pub record Files (frags : Frags) (ps : List Placed) : Type 0 where
  pub keyed : StoresKeys frags.keys (length frags.marks.items) (filed_frags ps)
  pub holds : AllByRecursion (λ p. slot_at frags.marks.items p.place ≡ Some p.fragment.which) ps
  pub only : (place : ℕ) (which : FragPlace) → slot_at frags.marks.items place ≡ Some which → HasFrag place ps
  pub distinct : Differ (frag_places ps)
  pub small : AllByRecursion (λ p. p.fragment.which.id < 2 ^ 32) ps
  pub vacant : AreFree frags.marks.items frags.free.items
  pub all : length frags.free.items + length ps ≡ length frags.marks.items
  pub capacity : length frags.marks.items ≤ vec_capacity frags.free

-- a fragment of this id and of a volume of this name stands at the place
abbrev pub HasNamed : ℕ → ℕ → List ℕ → List Placed → Type 0
HasNamed place id name [] = ⊥
HasNamed place id name (p ∷ ps) =
    ((p.place ≡ place) × (p.fragment.which.id ≡ id) × (p.fragment.name ≡ name)) ⊎ HasNamed place id name ps

-- all fragments but the one at a place
abbrev pub without_frag : ℕ → List Placed → List Placed
without_frag place = filter (λ p. not (p.place == place))

-- the fragments of a dump
abbrev pub with_dump : ℕ → List Placed → List Placed
with_dump id = filter (λ p. p.fragment.which.id == id)

-- the fragment is of a volume of these
abbrev pub IsOfVolume : List VolRecordFields → Fragment → Type 0
IsOfVolume vs f = (v : VolRecordFields) × (slice_get vs f.which.volume ≡ Some v) × (f.name ≡ v.name)

-- each fragment of the dump's id is of one of its volumes
abbrev pub AreOfDump : DumpRecordFields → List Placed → Type 0
AreOfDump dump = AllByRecursion (λ p. p.fragment.which.id ≡ dump.id → IsOfVolume dump.volumes p.fragment)

-- what stands at the place is of this id
abbrev pub IsOwn : ℕ → ℕ → List Placed → Type 0
IsOwn place id = AllByRecursion (λ p. p.place ≡ place → p.fragment.which.id ≡ id)

-- so many places there are with room for more
abbrev pub wanted : Frags → ℕ → ℕ
wanted frags count = length frags.marks.items + (count - length frags.free.items)

-- there is memory for room for so many more
pub record IsPrepared (frags : Frags) (count : ℕ) : Type 0 where
  pub small : wanted frags count < 2 ^ 64
  pub marks : wanted frags count ≤ vec_capacity frags.marks
  pub free : wanted frags count ≤ vec_capacity frags.free
  pub rows : wanted frags count ≤ length frags.keys.arena.rows
  pub room : (family : ℕ) → family < 2 → wanted frags count ≤ numbers_in (numbering frags.keys family)

-- ---- the fragments of records

-- fragments at the places of a chain
abbrev pub placed_along : List Stand → List Fragment → List Placed
placed_along [] fs = []
placed_along (s ∷ ss) [] = []
placed_along (s ∷ ss) (f ∷ fs) = placed_at s.place f ∷ placed_along ss fs

-- the fragments of records at the places of the chains of their ids
abbrev pub frags_in : Keys → List Entry → List Placed
frags_in keys [] = []
frags_in keys (entry ∷ entries) =
    placed_along (chain_in keys 1 (to_be_bytes w32 entry.dump.id)) (dump_frags entry.dump) ++ frags_in keys entries

-- the fragments that are stored are those of the records
pub record KeepsFrags (frags : Frags) (entries : List Entry) : Type 0 where
  pub files : Files frags (frags_in frags.keys entries)
  pub whole : fragments (frags_in frags.keys entries) ≡ frags_of (dumps_of entries)
  pub ids : DistinctIds entries
  pub small : AllByRecursion (λ entry. entry.dump.id < 2 ^ 32) entries
