use Rattle.cell_core.specs.Volumes.{volume_without}
use Rattle.cell_forms.proofs.Volumes.{removal_keeps}
use Rattle.cell_forms.proofs.Calls.{changed_form}
use Rattle.cell_forms.proofs.laws.a_removed_vnode_keeps_the_form.Goals as goal

pub returns : goal.returns
returns c = λ cell name number now new time form removed. changed_form cell name (volume_without number now) (removal_keeps number now time) form new removed
