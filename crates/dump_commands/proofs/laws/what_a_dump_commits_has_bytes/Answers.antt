use Rattle.dump_commands.proofs.FormLaws.{answer_journaled}
use Rattle.dump_commands.proofs.OrderForms.{order_form}
use Rattle.dump_commands.proofs.laws.what_a_dump_commits_has_bytes.Goals as goal

pub returns : goal.returns
returns c = λ s a scene command. answer_journaled s a scene.log scene.cell (λ port is. order_form s a port scene command is)
