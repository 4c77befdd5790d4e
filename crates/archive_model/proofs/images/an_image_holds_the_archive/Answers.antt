use Rattle.archive_model.proofs.StillLaws.{image_still_held}
use Rattle.archive_model.proofs.images.an_image_holds_the_archive.Goals as goal

pub returns : goal.returns
returns c = image_still_held
