use Rattle.backup_session.proofs.RecordForms.{found_form}
use Rattle.backup_session.proofs.laws.what_is_found_has_a_form.Goals as goal

pub returns : goal.returns
returns c = found_form
