use Rattle.group_laws.proofs.PoolForms.{end_journaled}
use Rattle.group_laws.proofs.forms.what_an_end_commits_has_bytes.Goals as goal

pub returns : goal.returns
returns c = λ s g scene commands. end_journaled s scene g commands
