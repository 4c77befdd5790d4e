use Rattle.std.proofs.Common.{◌≡◌, take}
use Rattle.std.specs.List.{flat_map}
use Rattle.backup_replies.specs.Hosts.{host_line}
use Rattle.backup_replies.proofs.hosts.hosts_lines.Given as goal

abbrev pub invariant-loop-host : goal.invariant-loop-host
invariant-loop-host l = l.lines ≡ flat_map host_line (take l.host-index l.hosts)
