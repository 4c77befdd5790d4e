use Rattle.dump_forms.proofs.EventForms.{allowed_there}
use Rattle.dump_forms.proofs.laws.each_clone_is_allowed.Goals as goal

pub returns : goal.returns
returns c = allowed_there
