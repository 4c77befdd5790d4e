use Rattle.std.proofs.Common.{◌≡◌, take, false}
use Rattle.budb_fold.specs.Database.{has_port}
use Rattle.dump_commands.proofs.ports.any_at_port.Given as goal

abbrev pub invariant-loop-host : goal.invariant-loop-host
invariant-loop-host l = has_port (take l.host-index l.hosts) l.port ≡ false
