-- The changes that a checkpoint writes in place of a log.
use Rattle.std.specs.Prelude.{ℕ, List, [], ◌∷◌, ◌++◌, map, ◌==◌, if◌then◌else◌}
use Rattle.std.specs.List.{flat_map}
use Rattle.volume_sets.specs.declared.sets.SetEntry.{SetEntry}
use Rattle.volume_sets.specs.declared.sets.VolumeSet.{VolumeSet}
use Rattle.dump_levels.specs.declared.levels.Level.{Level}
use Rattle.budb_changes.specs.declared.change.Change.{Change}
use Rattle.budb_changes.specs.declared.change.Change.TheVariants.{AddSet, AddEntry, AddLevel, AddHost, Begin, Found}
use Rattle.budb_fold.specs.declared.database.HostPort.{HostPort}
use Rattle.budb_fold.specs.declared.database.Database.{Database}

-- the change that puts an entry behind those of the set of this name
abbrev pub entry_change : List ℕ → SetEntry → Change
entry_change set entry = AddEntry set entry.server entry.partition entry.pattern

-- a set, and then its entries in order
abbrev pub set_changes : VolumeSet → List Change
set_changes set = AddSet set.name ∷ map (entry_change set.name) set.entries

-- the change that adds a dump level with its expiration
abbrev pub level_change : Level → Change
level_change level = AddLevel level.path level.expiry

-- the change that adds a tape host at its port offset
abbrev pub host_change : HostPort → Change
host_change host = AddHost host.host host.port

-- the greatest id that was begun or recorded, where one was
abbrev pub begin_changes : ℕ → List Change
begin_changes greatest = if greatest == 0 then [] else Begin greatest ∷ []

-- The sets with their entries, the levels, the tape hosts, the greatest id and the listed dumps, each in order.
abbrev pub checkpoint : Database → List Change
checkpoint db =
    flat_map set_changes db.sets ++ (map level_change db.levels ++ (map host_change db.hosts ++ (begin_changes db.greatest ++ map Found db.listed)))
