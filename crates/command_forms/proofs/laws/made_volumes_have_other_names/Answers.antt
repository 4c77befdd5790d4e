use Rattle.command_forms.proofs.NewNames.{line_apart}
use Rattle.command_forms.proofs.laws.made_volumes_have_other_names.Goals as goal

pub returns : goal.returns
returns c = line_apart
