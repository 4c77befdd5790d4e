use Rattle.cell_core.specs.Volumes.{written_volume}
use Rattle.cell_forms.proofs.Volumes.{write_keeps}
use Rattle.cell_forms.proofs.Calls.{changed_form}
use Rattle.cell_forms.proofs.laws.written_data_keeps_the_form.Goals as goal

pub returns : goal.returns
returns c = λ cell name number body now new fits bytes time form written. changed_form cell name (written_volume number body now) (write_keeps number body now fits bytes time) form new written
