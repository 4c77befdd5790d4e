use Rattle.std.proofs.Common.{◌∙◌, ap}
use Rattle.std.specs.List.{before_first, after_first}
use Rattle.bk_text.specs.Digits.{digits_of}
use Rattle.dump_levels.specs.Dates.{is_slash}
use Rattle.dump_levels.proofs.DateLaws.{same_parts}
use Rattle.dump_levels.proofs.dates.day_in.Goals as goal

pub returns-clause-is : goal.returns-clause-is
returns-clause-is c =
    c.day_with.ensures.is ∙ same_parts _ _ _ _ _ _ (c.digits_in.ensures.is ∙ ap (digits_of 1 2) c.split_at_first.ensures.front) (c.digits_in-2.ensures.is ∙ ap (digits_of 1 2) (c.split_at_first-2.ensures.front ∙ ap (before_first is_slash) c.split_at_first.ensures.behind)) (c.digits_in-3.ensures.is ∙ ap (digits_of 4 4) (c.split_at_first-2.ensures.behind ∙ ap (after_first is_slash) c.split_at_first.ensures.behind))
