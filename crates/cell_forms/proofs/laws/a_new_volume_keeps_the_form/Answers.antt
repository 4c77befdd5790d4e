use Rattle.cell_forms.proofs.Calls.{created_form}
use Rattle.cell_forms.proofs.laws.a_new_volume_keeps_the_form.Goals as goal

pub returns : goal.returns
returns c = λ cell server partition name now made host part named time form made_is. created_form cell server partition name now host part named time form made made_is
