use Rattle.cell_forms.proofs.Calls.{put_form}
use Rattle.cell_forms.proofs.laws.a_put_volume_keeps_the_form.Goals as goal

pub returns : goal.returns
returns c = λ cell server partition volume new host part v form put. put_form cell server partition volume host part v form new put
