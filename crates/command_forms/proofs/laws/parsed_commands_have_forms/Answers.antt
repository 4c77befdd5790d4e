use Rattle.command_forms.proofs.Lines.{line_form}
use Rattle.command_forms.proofs.laws.parsed_commands_have_forms.Goals as goal

pub returns : goal.returns
returns c = line_form
