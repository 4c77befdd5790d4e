use Rattle.archive_model.proofs.ExampleLaws.{label_holds}
use Rattle.archive_model.proofs.steps.a_label_is_held.Goals as goal

pub returns : goal.returns
returns c = label_holds
