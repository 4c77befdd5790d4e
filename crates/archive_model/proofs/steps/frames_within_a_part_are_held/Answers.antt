use Rattle.archive_model.proofs.GrowLaws.{frames_hold}
use Rattle.archive_model.proofs.steps.frames_within_a_part_are_held.Goals as goal

pub returns : goal.returns
returns c = frames_hold
