use Rattle.archive_model.proofs.AfterLaws.{untouched_behind, taken_behind, forgotten_behind, recorded_behind}
use Rattle.archive_model.proofs.steps.the_listed_dumps_behind_a_commit.Goals as goal

pub returns-clause-untouched : goal.returns-clause-untouched
returns-clause-untouched c = untouched_behind

pub returns-clause-taken : goal.returns-clause-taken
returns-clause-taken c = taken_behind

pub returns-clause-forgotten : goal.returns-clause-forgotten
returns-clause-forgotten c = forgotten_behind

pub returns-clause-recorded : goal.returns-clause-recorded
returns-clause-recorded c = recorded_behind
