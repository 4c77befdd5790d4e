use Rattle.dump_laws.proofs.AppendingLaws.{appending_runs}
use Rattle.dump_laws.proofs.begins.an_appending_dump_runs.Goals as goal

pub returns : goal.returns
returns c = appending_runs
