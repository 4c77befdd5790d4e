use Rattle.dump_laws.proofs.LoadLaws.{loads_run}
use Rattle.dump_laws.proofs.steps.a_dump_runs_behind_loads.Goals as goal

pub returns : goal.returns
returns c = loads_run
