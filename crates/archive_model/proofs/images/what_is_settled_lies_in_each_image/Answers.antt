use Rattle.archive_model.proofs.TornLaws.{torn_keeps}
use Rattle.archive_model.proofs.images.what_is_settled_lies_in_each_image.Goals as goal

pub returns : goal.returns
returns c = torn_keeps
