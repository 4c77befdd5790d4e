use Rattle.std.proofs.Common.{◌≡◌, ◌<◌, List, None, length, slice_index_or, sym, ◌∙◌, ap, subst, arith}
use Rattle.std.proofs.lemmas.List.{length-map}
use Rattle.budb_links.specs.declared.arena.Link.{Link}
use Rattle.budb_links.specs.Stands.{Among, place_behind}
use Rattle.budb_links.specs.Chained.{Woven, no_link, links_of, ends_of, ends_at, chain_from, chain_of}
use Rattle.budb_links.proofs.Columns.{column_at}
use Rattle.budb_links.proofs.Families.{behind_is, among_within}
use Rattle.budb_links.proofs.arena.Arena.after.Goals as goal

pub returns-then-place-len-clause-behind : goal.returns-then-place-len-clause-behind
returns-then-place-len-clause-behind g c = λ head among.
    let rows = c.self.inside.rows.items in
    let links = links_of c.args.family rows in
    let ss = chain_from links (ends_at (ends_of c.args.family c.self.inside.ends.items) head) in
    let mine = subst (λ (w : Woven). Among c.args.place (chain_of w c.args.family head)) (sym c.self.view_is) among in
    let spelled = c.self.invariant.spelled c.args.family head in
    let within : c.args.place < length rows = omega (arith, c.self.inside.rows.ok.0) in
    let row = c.index.result.now in
    let value =
    ap (λ (l : Link). l.after) (sym (column_at no_link rows c.args.place within row c.index.ensures c.args.family))
    ∙ behind_is links head c.args.place None ss spelled.linked mine in
    subst (λ (w : Woven). (slice_index_or row c.args.family no_link).after ≡ place_behind c.args.place (chain_of w c.args.family head)) c.self.view_is value

pub returns-else-place-len-clause-behind : goal.returns-else-place-len-clause-behind
returns-else-place-len-clause-behind g c = λ head among.
    let rows = c.self.inside.rows.items in
    let links = links_of c.args.family rows in
    let ss = chain_from links (ends_at (ends_of c.args.family c.self.inside.ends.items) head) in
    let mine = subst (λ (w : Woven). Among c.args.place (chain_of w c.args.family head)) (sym c.self.view_is) among in
    let spelled = c.self.invariant.spelled c.args.family head in
    let within = among_within links head c.args.place None ss None spelled.linked mine in
    absurd (omega (arith, within, c.self.inside.rows.ok.0, length-map rows (λ (r : List Link). slice_index_or r c.args.family no_link)))
