use Rattle.dump_archives.proofs.Formed.{is_formed}
use Rattle.dump_archives.proofs.laws.what_has_forms_is_formed.Goals as goal

pub returns : goal.returns
returns c = is_formed
