use Rattle.dump_laws.proofs.LoadLaws.{step_keeps}
use Rattle.dump_laws.proofs.steps.each_step_keeps.Goals as goal

pub returns : goal.returns
returns c = step_keeps
