use Rattle.group_laws.proofs.PoolTapes.{end_short}
use Rattle.group_laws.proofs.LeftForms.{end_time, end_contents}
use Rattle.group_laws.proofs.forms.what_an_end_leaves_has_forms.Goals as goal

pub returns-clause-time : goal.returns-clause-time
returns-clause-time c = λ s g scene. end_time s g scene.time

pub returns-clause-contents : goal.returns-clause-contents
returns-clause-contents c = λ s g contents scene forms. end_contents s g contents scene.cell forms

pub returns-clause-tapes : goal.returns-clause-tapes
returns-clause-tapes c = λ s g scene commands few short. end_short s scene g commands few short
