use Rattle.archive_model.proofs.DumpLaws.{rest_holds}
use Rattle.archive_model.proofs.images.what_is_settled_holds.Goals as goal

pub returns : goal.returns
returns c = λ s a records held settled. rest_holds s a records held settled.log settled.tapes
