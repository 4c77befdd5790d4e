use Rattle.std.proofs.Common.{sym, ◌∙◌}
use Rattle.budb_fold.proofs.LatestLaws.{none_is_latest}
use Rattle.budb_fold.proofs.latest_dumps.latest.Goals as goal

pub returns-clause-none : goal.returns-clause-none
returns-clause-none c = λ none. sym (c.as_slice.ensures.value ∙ c.in_ok-dumps.ensures) ∙ none_is_latest c.args.name.now c.as_slice.result.now (sym c.first_unbeaten.ensures ∙ none)
