use Rattle.saved_archives.proofs.SinceLaws.{all_both, fewer_since}
use Rattle.saved_archives.proofs.laws.what_came_since_joins.Goals as goal

pub returns-clause-fewer : goal.returns-clause-fewer
returns-clause-fewer c = fewer_since

pub returns-clause-both : goal.returns-clause-both
returns-clause-both c = all_both
