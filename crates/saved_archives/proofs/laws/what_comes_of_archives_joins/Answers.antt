use Rattle.saved_archives.proofs.ArchiveLaws.{comes_of_itself, comes_of_both, comes_of_step}
use Rattle.saved_archives.proofs.laws.what_comes_of_archives_joins.Goals as goal

pub returns-clause-same : goal.returns-clause-same
returns-clause-same c = comes_of_itself

pub returns-clause-both : goal.returns-clause-both
returns-clause-both c = comes_of_both

pub returns-clause-step : goal.returns-clause-step
returns-clause-step c = comes_of_step
