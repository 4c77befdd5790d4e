use Rattle.cell_forms.proofs.Calls.{removed_form}
use Rattle.cell_forms.proofs.laws.a_removed_volume_keeps_the_form.Goals as goal

pub returns : goal.returns
returns c = removed_form
