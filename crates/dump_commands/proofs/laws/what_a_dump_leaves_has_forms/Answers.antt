use Rattle.dump_commands.proofs.OrderForms.{order_form}
use Rattle.dump_commands.proofs.ShortTapes.{answer_short}
use Rattle.dump_commands.proofs.LeftForms.{answer_time, answer_contents}
use Rattle.dump_commands.proofs.laws.what_a_dump_leaves_has_forms.Goals as goal

pub returns-clause-time : goal.returns-clause-time
returns-clause-time c = λ s a scene. answer_time s a scene.time

pub returns-clause-tapes : goal.returns-clause-tapes
returns-clause-tapes c = λ s a scene command short. answer_short s scene.log scene.cell short a (λ port is. order_form s a port scene command is)

pub returns-clause-contents : goal.returns-clause-contents
returns-clause-contents c = λ s a contents scene forms. answer_contents s a contents scene.cell forms
