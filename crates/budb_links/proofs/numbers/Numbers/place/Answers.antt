use Rattle.std.proofs.Common.{List, sym, ap, ◌∙◌, subst, rules}
use Rattle.std.specs.Prelude.{MatchResult}
use Rattle.budb_links.specs.Keys.{Numbered, Numbering, Ascending, IsKeyAt, IsNewAt}
use Rattle.budb_links.proofs.KeyLaws.{place_from_clause}
use Rattle.budb_links.proofs.numbers.Numbers.place.Goals as goal

pub returns : goal.returns
returns c =
    let same = c.deref.ensures.value in
    let seen = same ∙ ap (λ (n : Numbering). n.used) c.self.view_is in
    let found = place_from_clause c.args.key.now c.deref.result.now c.binary_search_by.result (subst Ascending (sym same) c.self.invariant.0) c.binary_search_by.ensures.bound c.binary_search_by.ensures.position (λ a o f k. search rules) in
    subst (λ (us : List Numbered). MatchResult c.binary_search_by.result (IsKeyAt c.args.key.now us) (IsNewAt c.args.key.now us)) seen found
