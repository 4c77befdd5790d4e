use Rattle.dump_laws.proofs.LoadLaws.{step_image}
use Rattle.dump_laws.proofs.steps.each_image_of_a_step_holds.Goals as goal

pub returns : goal.returns
returns c = step_image
