use Rattle.cell_forms.proofs.Calls.{backed_up_form}
use Rattle.cell_forms.proofs.laws.a_backup_volume_keeps_the_form.Goals as goal

pub returns : goal.returns
returns c = λ cell name now new time form backed_up. backed_up_form cell name now time form new backed_up
