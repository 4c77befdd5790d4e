use Rattle.std.proofs.Common.{◌≡◌, ◌++◌, take}
use Rattle.std.specs.Prelude.{map}
use Rattle.budb_fold.specs.Checkpoints.{host_change}
use Rattle.budb_fold.proofs.checkpoints.push_hosts.Given as goal

abbrev pub invariant-loop-host : goal.invariant-loop-host
invariant-loop-host l = l.changes ≡ l.initial.changes ++ map host_change (take l.host-index l.hosts)
