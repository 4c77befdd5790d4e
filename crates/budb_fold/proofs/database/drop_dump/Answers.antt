use Rattle.std.proofs.Common.{rules, not}
use Rattle.std.proofs.lemmas.Fn.{filter_same}
use Rattle.budb_changes.specs.declared.records.DumpRecordFields.{DumpRecordFields}
use Rattle.budb_fold.specs.Database.{is_dump}
use Rattle.budb_fold.proofs.database.drop_dump.Goals as goal

pub returns : goal.returns
returns c = filter_same _ (λ (one : DumpRecordFields). not (is_dump c.args.id one)) _ (λ x b f' t. search rules) c.args.listed.now c.retain.new.self c.retain.ensures
