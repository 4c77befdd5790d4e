use Rattle.std.proofs.Common.{◌<◌, length, refl, sym, ◌∙◌, ap, subst}
use Rattle.budb_links.specs.declared.arena.Link.{Link}
use Rattle.budb_links.specs.Stands.{Among}
use Rattle.budb_links.specs.Chained.{Woven, no_link, links_of, ends_of, ends_at, chain_from, chain_of, link_at}
use Rattle.budb_links.proofs.Columns.{column_at}
use Rattle.budb_links.proofs.Weaving.{of_head}
use Rattle.budb_links.proofs.arena.Arena.look.Goals as goal

pub returns-clause-heads : goal.returns-clause-heads
returns-clause-heads g c = λ family head among.
    let rows = c.self.inside.rows.items in
    let links = links_of family rows in
    let e = ends_at (ends_of family c.self.inside.ends.items) head in
    let mine = subst (λ (w : Woven). Among c.args.place (chain_of w family head)) (sym c.self.view_is) among in
    let within = subst (λ (w : Woven). c.args.place < length w.rows) (sym c.self.view_is) c.requires in
    let at = column_at no_link rows c.args.place within c.index.result.now c.index.ensures family in
    ap (λ (l : Link). l.head) (sym at)
    ∙ of_head links head e (chain_from links e) (c.self.invariant.spelled family head) c.args.place mine (link_at links c.args.place) refl
