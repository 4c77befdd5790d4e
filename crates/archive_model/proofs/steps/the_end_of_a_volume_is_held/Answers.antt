use Rattle.archive_model.proofs.ExampleLaws.{volume_end_holds}
use Rattle.archive_model.proofs.steps.the_end_of_a_volume_is_held.Goals as goal

pub returns : goal.returns
returns c = volume_end_holds
