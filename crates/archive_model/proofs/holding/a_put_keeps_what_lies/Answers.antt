use Rattle.archive_model.proofs.KeepLaws.{put_keeps}
use Rattle.archive_model.proofs.holding.a_put_keeps_what_lies.Goals as goal

pub returns : goal.returns
returns c = put_keeps
