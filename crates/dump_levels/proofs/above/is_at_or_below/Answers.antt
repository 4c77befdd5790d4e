use Rattle.std.proofs.Common.{◌∙◌, sym, ap, ℕ, List, ◌++◌, Some}
use Rattle.std.proofs.lemmas.Slice.Eq.{strip_prefix_is}
use Rattle.dump_levels.proofs.WithinLaws.{same_numbers, no_front, behind}
use Rattle.dump_levels.proofs.above.is_at_or_below.Goals as goal

pub returns-in-None : goal.returns-in-None
returns-in-None c = no_front c.args.upper.now c.args.path.now c.bytes-2.result.now c.bytes.result.now c.bytes-2.ensures.value c.bytes.ensures.value c.bytes-2.ensures.form c.bytes.ensures.form c.in-None.ensures.cases

pub returns-in-Some : goal.returns-in-Some
returns-in-Some c =
    let rest : List ℕ = c.in-Some.rest.now in
    c.ends_element.ensures ∙ behind c.args.upper.now c.args.path.now rest c.bytes-2.ensures.form c.bytes.ensures.form (sym c.bytes.ensures.value ∙ strip_prefix_is same_numbers c.bytes.result.now c.bytes-2.result.now (Some c.in-Some.rest) c.in-Some.ensures.cases ∙ ap (λ (l : List ℕ). l ++ rest) c.bytes-2.ensures.value)
