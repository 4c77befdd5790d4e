use Rattle.dump_forms.proofs.SlotForms.{tapes_fit}
use Rattle.dump_forms.proofs.laws.what_tapes_say_fits.Goals as goal

pub returns : goal.returns
returns c = tapes_fit
