-- What a look-up of an archive answers, as a function.
use Rattle.std.specs.Prelude.{ℕ, ◌+◌, ◌==◌, if◌then◌else◌, zero, suc, Option, Some, None, Result, Ok, Err, List, [], ◌∷◌}
use Rattle.vnode_model.specs.declared.volumes.VolumeFields.{VolumeFields}
use Rattle.budb_changes.specs.declared.records.DumpRecordFields.{DumpRecordFields}
use Rattle.budb_fold.specs.Lookups.{VolumeDump, latest}
use Rattle.budb_fold.specs.Chains.{dump_of, followed_by}
use Rattle.archive_model.specs.Archives.{Archive, Refusal, NoDump, listed_of, looked_up_by}

-- a dump of a volume behind the chain of its parent; alone where the from time is 0; its id where it isn't there
abbrev pub chain_over : ℕ → Option VolumeDump → Result (List ℕ) ℕ → Result (List ℕ) ℕ
chain_over id None up = Err id
chain_over id (Some d) up = if d.volume.from == 0 then Ok (id ∷ []) else followed_by up id

-- the id of a dump's parent; 0 where there is no dump
abbrev pub parent_in : Option VolumeDump → ℕ
parent_in None = 0
parent_in (Some d) = d.dump.parent

-- upwards, at most so many steps
abbrev pub chain_up : ℕ → List DumpRecordFields → List ℕ → ℕ → Result (List ℕ) ℕ
chain_up zero records name id = Err id
chain_up (suc n) records name id = chain_over id (dump_of records name id) (chain_up n records name (parent_in (dump_of records name id)))

-- The chain of a dump, or the id that is told in its place. Parents lie below their dumps, so one step more than the id is never too few.
abbrev pub chain_in : List DumpRecordFields → ℕ → List ℕ → Result (List ℕ) ℕ
chain_in records id name = chain_up (id + 1) records name id

-- what the archive has of a volume by this dump of it; of no dump, that there is none
abbrev pub looked_up_one : Archive → Option VolumeDump → Result VolumeFields Refusal
looked_up_one a None = Err NoDump
looked_up_one a (Some one) = looked_up_by a one (chain_in (listed_of a) one.dump.id one.volume.name)

-- what a restore of a name before a time gives
abbrev pub looked_up : Archive → List ℕ → Option ℕ → Result VolumeFields Refusal
looked_up a name before = looked_up_one a (latest (listed_of a) name before)
