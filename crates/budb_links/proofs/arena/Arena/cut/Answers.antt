use Rattle.std.proofs.Common.{◌≡◌, ◌<◌, ℕ, List, length, set, get_or, sym, subst, arith}
use Rattle.std.proofs.lemmas.List.{length-map}
use Rattle.budb_links.specs.declared.arena.Link.{Link}
use Rattle.budb_links.specs.declared.arena.Ends.{Ends}
use Rattle.budb_links.specs.Stands.{Among}
use Rattle.budb_links.specs.Chained.{Woven, no_link, no_ends, links_of, ends_of, ends_at, chain_from, chain_of, link_at}
use Rattle.budb_links.proofs.Families.{CutFrom, cut_from, head_within, if_within, before_within, after_within}
use Rattle.budb_links.proofs.arena.Arena.cut.Given as given
use Rattle.budb_links.proofs.arena.Arena.cut.Goals as goal

pub set_after-begun-requires-clause-place_in : goal.set_after-begun-requires-clause-place_in
set_after-begun-requires-clause-place_in g c =
    let links = links_of c.args.family c.self.inside.rows.items in
    let es = ends_of c.args.family c.self.inside.ends.items in
    let among = subst (λ (w : Woven). Among c.args.place (chain_of w c.args.family c.args.link.head)) (sym c.self.view_is) c.requires.stands in
    let is = subst (λ (w : Woven). c.args.link ≡ link_at (links_of c.args.family w.rows) c.args.place) (sym c.self.view_is) c.requires.link in
    let spelled = c.self.invariant.spelled c.args.family c.args.link.head in
    let long = length-map c.self.inside.rows.items (λ (r : List Link). get_or r c.args.family no_link) in
    let ss = chain_from links (ends_at es c.args.link.head) in
    if_within c.args.link.before (length c.self.inside.rows.items) (λ p e. let below = before_within links c.args.link.head (ends_at es c.args.link.head) ss spelled c.args.place among c.args.link is p e in omega (arith, below, long))

pub set_before-ended-requires-clause-place_in : goal.set_before-ended-requires-clause-place_in
set_before-ended-requires-clause-place_in g c =
    let links = links_of c.args.family c.self.inside.rows.items in
    let es = ends_of c.args.family c.self.inside.ends.items in
    let among = subst (λ (w : Woven). Among c.args.place (chain_of w c.args.family c.args.link.head)) (sym c.self.view_is) c.requires.stands in
    let is = subst (λ (w : Woven). c.args.link ≡ link_at (links_of c.args.family w.rows) c.args.place) (sym c.self.view_is) c.requires.link in
    let spelled = c.self.invariant.spelled c.args.family c.args.link.head in
    let long = length-map c.self.inside.rows.items (λ (r : List Link). get_or r c.args.family no_link) in
    let ss = chain_from links (ends_at es c.args.link.head) in
    if_within c.args.link.after (length c.set_after-begun.new.rows.items) (λ p e. let below = after_within links c.args.link.head (ends_at es c.args.link.head) ss spelled c.args.place among c.args.link is p e in omega (arith, below, long, c.set_after-begun.ensures.long))

made : (g : given.Over) (c : goal.After-self-1 g) → CutFrom c.self.inside.rows.items c.set_before-ended.new.rows.items c.self.inside.ends.items (set c.self.inside.ends.items c.args.link.head (set c.index_mut.result.now c.args.family c.set_before-ended.result)) c.args.family c.args.place
made g c =
    let rows = c.self.inside.rows.items in
    let ends = c.self.inside.ends.items in
    let among = subst (λ (w : Woven). Among c.args.place (chain_of w c.args.family c.args.link.head)) (sym c.self.view_is) c.requires.stands in
    let is = subst (λ (w : Woven). c.args.link ≡ link_at (links_of c.args.family w.rows) c.args.place) (sym c.self.view_is) c.requires.link in
    let heads_in = head_within (links_of c.args.family rows) (ends_of c.args.family ends) c.args.link.head c.args.place among in
    let head_in = subst (λ (n : ℕ). c.args.link.head < n) (length-map ends (λ (r : List Ends). get_or r c.args.family no_ends)) heads_in in
    cut_from rows c.set_after-begun.new.rows.items c.set_before-ended.new.rows.items ends c.self.invariant c.args.family c.args.link.head c.args.place c.requires.family_in head_in c.index.result.now c.index.ensures c.index_mut.result.now c.index_mut.ensures.value c.set_before-ended.ensures.wide c.set_after-begun.ensures.others c.set_before-ended.ensures.others c.args.link c.set_after-begun.result c.set_before-ended.result among is c.set_after-begun.ensures.links c.set_before-ended.ensures.links c.set_after-begun.ensures.ends c.set_before-ended.ensures.ends

pub invariant_of-self : goal.invariant_of-self
invariant_of-self g c = (made g c).keeps

pub returns-clause-chains : goal.returns-clause-chains
returns-clause-chains g c = λ head. rw (← c.self.view_is) ((made g c).chains head)

pub returns-clause-families : goal.returns-clause-families
returns-clause-families g c = λ other number ne. rw (← c.self.view_is) ((made g c).families other number ne)
