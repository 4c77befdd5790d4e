use Rattle.std.proofs.Common.{◌≡◌, take, false}
use Rattle.backup_session.specs.Verdicts.{has_host_port}
use Rattle.backup_session.proofs.hosts.any_host_port.Given as goal

abbrev pub invariant-loop-there : goal.invariant-loop-there
invariant-loop-there l = has_host_port (take l.there-index l.hosts) l.host l.port ≡ false
