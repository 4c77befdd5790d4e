use Rattle.dump_forms.proofs.EventForms.{event_forms}
use Rattle.dump_forms.proofs.laws.each_event_has_forms.Goals as goal

pub returns : goal.returns
returns c = event_forms
