use Rattle.dump_laws.proofs.LoadLaws.{alike_runs}
use Rattle.dump_laws.proofs.steps.a_dump_runs_in_states_alike.Goals as goal

pub returns : goal.returns
returns c = alike_runs
