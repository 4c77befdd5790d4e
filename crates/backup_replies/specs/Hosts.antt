-- The tape hosts.
use Rattle.std.specs.Prelude.{ℕ, List, ◌++◌, codes}
use Rattle.std.specs.List.{flat_map}
use Rattle.budb_fold.specs.declared.database.HostPort.{HostPort}
use Rattle.backup_replies.specs.Texts.{then_word, then_number, line_feed, ok_line}

-- the line of a tape host: its name and its port offset
abbrev pub host_line : HostPort → List ℕ
host_line host = codes "host" ++ then_word host.host ++ codes " port" ++ then_number host.port ++ line_feed

-- all of them, in the order of adding
abbrev pub hosts_lines : List HostPort → List ℕ
hosts_lines hosts = flat_map host_line hosts ++ ok_line
