-- What a command orders to be dumped.
use Rattle.std.specs.Prelude.{ℕ, List, if◌then◌else◌, Option, Some, None, Result, Ok, Err}
use Rattle.vnode_model.specs.declared.listed.VolEntry.{VolEntry}
use Rattle.volume_sets.specs.declared.sets.VolumeSet.{VolumeSet}
use Rattle.volume_sets.specs.Sets.{has_set, entries_under}
use Rattle.dump_levels.specs.declared.levels.LevelFault.{LevelFault}
use Rattle.dump_levels.specs.Trees.{has_level}
use Rattle.dump_levels.specs.Spans.{expires_in}
use Rattle.tape_config.specs.declared.port.PortFields.{PortFields}
use Rattle.tape_config.specs.Configs.{Settings, port_in, name_or_nothing}
use Rattle.budb_fold.specs.declared.database.HostPort.{HostPort}
use Rattle.budb_fold.specs.declared.database.Database.{Database}
use Rattle.budb_fold.specs.Database.{has_port}
use Rattle.budb_fold.specs.Lookups.{parent_of}
use Rattle.dump_job.specs.declared.order.DumpOrder.{DumpOrder}
use Rattle.dump_job.specs.Beginning.{new_id}
use Rattle.backup_replies.specs.declared.refusals.Refusal.TheVariants.{NoSuchSet, NoSuchLevel, NoSuchPort}
use Rattle.backup_replies.specs.Texts.{refused_word, refused_number}
use Rattle.backup_words.specs.declared.command.DumpCommand.{DumpCommand}
use Rattle.dump_commands.specs.Expanding.{expansion}

-- ---- what has to be there: the set, the level, the port

-- the port, or the refusal that no port has this offset
abbrev pub port_at : ℕ → Option PortFields → Result PortFields (List ℕ)
port_at offset None = Err (refused_number NoSuchPort offset)
port_at offset (Some port) = Ok port

-- a port has a tape host and a line in the configuration
abbrev pub port_of : Settings → List HostPort → ℕ → Result PortFields (List ℕ)
port_of config hosts offset = if has_port hosts offset then port_at offset (port_in offset config.entries) else Err (refused_number NoSuchPort offset)

-- The port to whose tapes a command dumps; else the first refusal: 11, 21, 31.
abbrev pub asked_port : Settings → Database → DumpCommand → Result PortFields (List ℕ)
asked_port config db a =
    if has_set a.set db.sets then (if has_level db.levels a.level then port_of config db.hosts a.offset else Err (refused_word NoSuchLevel a.level))
    else Err (refused_word NoSuchSet a.set)

-- ---- the order

-- the places of the set's volumes in the cell's list, in order
abbrev pub volumes_of : List VolumeSet → List ℕ → List VolEntry → List ℕ
volumes_of sets set cell = expansion (entries_under set sets) cell

-- where the level isn't there, nothing would expire
abbrev pub expires_or_none : Result ℕ LevelFault → ℕ
expires_or_none (Ok second) = second
expires_or_none (Err fault) = 0

-- A dump expires as its level says of a dump that is created with its id, not at the command's time.
abbrev pub expires_with : Database → List ℕ → ℕ → ℕ
expires_with db level time = expires_or_none (expires_in db.levels level (new_id time db.greatest))

-- THE ORDER: the set's volumes at the command's time, since the parent that the listed dumps of the set give, and with the cell's name that
-- the configuration gives.
abbrev pub order_of : Settings → Database → List VolEntry → ℕ → DumpCommand → PortFields → DumpOrder
order_of config db cell time a port = record {
  set = a.set;
  level = a.level;
  expires = expires_with db a.level time;
  parent = parent_of db.listed a.set a.level;
  port = port;
  append = a.append;
  volumes = volumes_of db.sets a.set cell;
  time = time;
  cell = name_or_nothing config.cell;
}
