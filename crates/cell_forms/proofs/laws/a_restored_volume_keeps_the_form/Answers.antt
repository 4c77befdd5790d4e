use Rattle.cell_forms.proofs.Calls.{put_restored_form}
use Rattle.cell_forms.proofs.laws.a_restored_volume_keeps_the_form.Goals as goal

pub returns : goal.returns
returns c = λ cell server partition name now volume new host part time v form restored. put_restored_form c.form_tests.ensures.name cell server partition name now volume host part time v form new restored
