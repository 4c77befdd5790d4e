use Rattle.std.proofs.Common.{◌<◌, ℕ, List, Some, None, length, set, get_or, sym, ◌∙◌, ap, subst, arith}
use Rattle.budb_links.specs.declared.arena.Link.{Link}
use Rattle.budb_links.specs.declared.arena.Ends.{Ends}
use Rattle.budb_links.specs.Stands.{Apart}
use Rattle.budb_links.specs.Chained.{Woven, no_link, no_ends, links_of, ends_of, ends_at, chain_from, chain_of}
use Rattle.budb_links.proofs.Columns.{column_at}
use Rattle.budb_links.proofs.Families.{PushedTo, pushed_to, last_within, if_within}
use Rattle.std.proofs.lemmas.List.{length-map}
use Rattle.budb_links.proofs.arena.Arena.push.Given as given
use Rattle.budb_links.proofs.arena.Arena.push.Goals as goal

pub set_after-ends-requires-clause-place_in : goal.set_after-ends-requires-clause-place_in
set_after-ends-requires-clause-place_in g c =
    let rows = c.self.inside.rows.items in
    let ends = c.self.inside.ends.items in
    let links = links_of c.args.family rows in
    let head_in = subst (λ (w : Woven). c.args.head < length w.ends) (sym c.self.view_is) c.requires.head_in in
    let now = column_at no_ends ends c.args.head head_in c.index.result.now c.index.ensures c.args.family in
    let spelled = c.self.invariant.spelled c.args.family c.args.head in
    let ss = chain_from links (ends_at (ends_of c.args.family ends) c.args.head) in
    let long = length-map rows (λ (r : List Link). get_or r c.args.family no_link) in
    if_within
    (get_or c.index.result.now c.args.family no_ends).last
    (length c.put.new.rows.items)
    (λ p e. let below = last_within links c.args.head None ss None spelled.linked (λ q f. cc) p (sym spelled.last ∙ ap (λ (t : Ends). t.last) now ∙ e) in omega (arith, below, long, c.put.ensures.long))

made : (g : given.Over) (c : goal.After-self-1 g) → PushedTo c.self.inside.rows.items c.set_after-ends.new.rows.items c.self.inside.ends.items (set c.self.inside.ends.items c.args.head (set c.index_mut.result.now c.args.family (record { first = c.set_after-ends.result.first; last = Some c.args.place }))) c.args.family c.args.head c.args.place c.args.id
made g c =
    let rows = c.self.inside.rows.items in
    let ends = c.self.inside.ends.items in
    let seen = sym c.self.view_is in
    let head_in = subst (λ (w : Woven). c.args.head < length w.ends) seen c.requires.head_in in
    let within = subst (λ (w : Woven). c.args.place < length w.rows) seen c.requires.place_in in
    let fresh = subst (λ (w : Woven). (other : ℕ) → Apart c.args.place (chain_of w c.args.family other)) seen c.requires.fresh in
    let few = subst (λ (w : Woven). length (chain_of w c.args.family c.args.head) < length w.rows) seen c.requires.few in
    pushed_to rows c.put.new.rows.items c.set_after-ends.new.rows.items ends c.self.invariant c.args.family c.args.head c.args.place c.requires.family_in head_in c.index.result.now c.index.ensures c.index_mut.result.now c.index_mut.ensures.value c.set_after-ends.ensures.wide c.put.ensures.others c.set_after-ends.ensures.others c.args.id c.set_after-ends.result within fresh few c.put.ensures.links c.set_after-ends.ensures.links c.set_after-ends.ensures.ends

pub invariant_of-self : goal.invariant_of-self
invariant_of-self g c = (made g c).keeps

pub returns-clause-chain : goal.returns-clause-chain
returns-clause-chain g c = rw (← c.self.view_is) (made g c).chain

pub returns-clause-others : goal.returns-clause-others
returns-clause-others g c = λ other ne. rw (← c.self.view_is) ((made g c).others other ne)

pub returns-clause-families : goal.returns-clause-families
returns-clause-families g c = λ other number ne. rw (← c.self.view_is) ((made g c).families other number ne)
