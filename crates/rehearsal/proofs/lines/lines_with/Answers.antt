use Rattle.std.proofs.Common.{rules, tests, refl, ◌∙◌}
use Rattle.std.specs.Prelude.{nat_eq}
use Rattle.std.specs.List.{slice_split, starts_with}
use Rattle.std.proofs.lemmas.Iterator.Consumers.{YieldsList-at, YieldsList-from_filter, count_from_yields_List}
use Rattle.std.proofs.lemmas.Iterator.Splits.{YieldsList-from_slice_split}
use Rattle.std.proofs.lemmas.List.Sums.{length-filter}
use Rattle.backup_replies.specs.Texts.{is_feed}
use Rattle.rehearsal.proofs.lines.lines_with.Goals as goal

pub returns : goal.returns
returns c =
    count_from_yields_List c.filter.result c.count.result c.count.ensures.ran
    (YieldsList-from_filter _ (λ line. starts_with nat_eq line c.args.front.now)
    (YieldsList-at c.filter.ensures.source (YieldsList-from_slice_split _ is_feed c.args.text.now c.split.ensures.rest c.split.ensures.done c.split.ensures.closure (λ x b q h. (refl, search rules))))
    c.filter.ensures.closure (λ x b q h. search (rules, tests)))
    ∙ length-filter (λ line. starts_with nat_eq line c.args.front.now) (slice_split is_feed c.args.text.now)
