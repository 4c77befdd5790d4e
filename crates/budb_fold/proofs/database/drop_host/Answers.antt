use Rattle.std.proofs.Common.{rules, not}
use Rattle.std.proofs.lemmas.Fn.{filter_same}
use Rattle.budb_fold.specs.declared.database.HostPort.{HostPort}
use Rattle.budb_fold.specs.Database.{is_port}
use Rattle.budb_fold.proofs.database.drop_host.Goals as goal

pub returns : goal.returns
returns c = filter_same _ (λ (one : HostPort). not (is_port c.args.port one)) _ (λ x b f' t. search rules) c.args.hosts.now c.retain.new.self c.retain.ensures
