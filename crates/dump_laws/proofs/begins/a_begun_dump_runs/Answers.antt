use Rattle.dump_laws.proofs.BeginLaws.{begun_kept, taken_runs}
use Rattle.dump_laws.proofs.begins.a_begun_dump_runs.Goals as goal

pub returns-clause-kept : goal.returns-clause-kept
returns-clause-kept c = begun_kept

pub returns-clause-runs : goal.returns-clause-runs
returns-clause-runs c = taken_runs
