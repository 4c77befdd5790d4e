-- The chain of a dump for the name of a volume: the dumps that together give the volume, the whole one first.
use Rattle.std.specs.Prelude.{◌≡◌, ◌≢◌, ℕ, ◌<◌, List, [], ◌∷◌, ◌++◌, reverse, All, ◌⊎◌, Option, Some, None, Result, Ok, Err}
use Rattle.budb_changes.specs.declared.records.VolRecordFields.{VolRecordFields}
use Rattle.budb_changes.specs.declared.records.DumpRecordFields.{DumpRecordFields}
use Rattle.budb_fold.specs.declared.fault.ChainFault.{ChainFault}
use Rattle.budb_fold.specs.declared.fault.ChainFault.TheVariants.{Missing, Memory}
use Rattle.budb_fold.specs.Lookups.{VolumeDump, record_of, volume_of}

-- a dump with this volume of its record; `None` where the record lacks the volume
abbrev pub with_volume : DumpRecordFields → Option VolRecordFields → Option VolumeDump
with_volume dump None = None
with_volume dump (Some volume) = Some (record { dump = dump; volume = volume })

-- a dump with its volume of a name; `None` where there is no dump, or its record lacks the name
abbrev pub volume_in : Option DumpRecordFields → List ℕ → Option VolumeDump
volume_in None name = None
volume_in (Some dump) name = with_volume dump (volume_of dump name)

-- the dump of an id with its volume of a name; none where the id isn't among the records, or its record lacks the name
abbrev pub dump_of : List DumpRecordFields → List ℕ → ℕ → Option VolumeDump
dump_of records name id = volume_in (record_of records id) name

-- The dump of this id has the volume as it was, and not only what changed since another dump.
abbrev pub IsWholeIn : List DumpRecordFields → List ℕ → ℕ → Type 0
IsWholeIn records name id = (d : VolumeDump) × (dump_of records name id ≡ Some d) × (d.volume.from ≡ 0)

-- Upwards from one id to another these are passed, in order: each dump has what changed since its parent, which comes next.
abbrev pub Passes : List DumpRecordFields → List ℕ → ℕ → List ℕ → ℕ → Type 0
Passes records name id [] to = id ≡ to
Passes records name id (i ∷ ids) to = (i ≡ id) × ((d : VolumeDump) × (dump_of records name id ≡ Some d) × (d.volume.from ≢ 0) × Passes records name d.dump.parent ids to)

-- The chain of a dump: going upwards, the first dump that has the volume whole, and then those that were passed, the last
-- of them first. In its place the first id going upwards that isn't among the records, or whose record lacks the name.
abbrev pub IsChain : List DumpRecordFields → ℕ → List ℕ → Result (List ℕ) ℕ → Type 0
IsChain records id name (Ok ids) = (passed : List ℕ) × ((whole : ℕ) × Passes records name id passed whole × IsWholeIn records name whole × (ids ≡ whole ∷ reverse passed))
IsChain records id name (Err missing) = (passed : List ℕ) × Passes records name id passed missing × (dump_of records name missing ≡ None)

-- a dump behind its parent's chain
abbrev pub followed_by : Result (List ℕ) ℕ → ℕ → Result (List ℕ) ℕ
followed_by (Ok ids) id = Ok (ids ++ id ∷ [])
followed_by (Err missing) id = Err missing

-- the dump alone where its from time is 0, else its parent's chain and then the dump
abbrev pub Unfolds : List DumpRecordFields → ℕ → List ℕ → Result (List ℕ) ℕ → Option VolumeDump → Type 0
Unfolds records id name outcome None = outcome ≡ Err id
Unfolds records id name outcome (Some d) =
    ((d.volume.from ≡ 0) × (outcome ≡ Ok (id ∷ []))) ⊎ ((d.volume.from ≢ 0) × ((up : Result (List ℕ) ℕ) × IsChain records d.dump.parent name up × (outcome ≡ followed_by up id)))

-- so that every way upwards ends
abbrev pub HaveParentsBelow : List DumpRecordFields → Type 0
HaveParentsBelow records = All (λ dump. dump.parent < dump.id) records

-- What the look-up of a chain answers: the chain, or the id that is told in its place, unless memory runs out.
abbrev pub Chains : List DumpRecordFields → ℕ → List ℕ → Result (List ℕ) ChainFault → Type 0
Chains records id name (Ok ids) = IsChain records id name (Ok ids)
Chains records id name (Err (Missing missing)) = HaveParentsBelow records → IsChain records id name (Err missing)
Chains records id name (Err Memory) = Unit {0}
