use Rattle.dump_forms.proofs.BeginForms.{begin_forms}
use Rattle.dump_forms.proofs.laws.a_begun_dump_has_forms.Goals as goal

pub returns : goal.returns
returns c = begin_forms
