use Rattle.std.proofs.Common.{◌<◌, ℕ, length, set, get_or, Option, sym, ◌∙◌, ap, subst}
use Rattle.std.specs.Prelude.{IfSome}
use Rattle.budb_links.specs.declared.arena.Link.{Link}
use Rattle.budb_links.specs.declared.arena.TheConstants.{FAMILIES}
use Rattle.budb_links.specs.Chained.{no_link, links_of, with_before}
use Rattle.budb_links.proofs.Columns.{column_at, column_same, column_other}
use Rattle.budb_links.proofs.arena.set_before.Goals as goal

pub returns-in-Some-clause-links : goal.returns-in-Some-clause-links
returns-in-Some-clause-links g c =
    let rows = c.args.rows.now.items in
    let place = c.in-Some.place in
    let row = c.index_mut.result.now in
    let read = c.index_mut.ensures.value in
    let within = subst (λ (o : Option ℕ). IfSome o (λ p. p < length rows)) c.in-Some.is c.requires.place_in in
    column_same no_link rows place within row read FAMILIES c.requires.wide c.args.family (record (get_or row c.args.family no_link) { before = c.args.before }) c.requires.family_in
    ∙ ap (λ (l : Link). set (links_of c.args.family rows) place (record l { before = c.args.before })) (sym (column_at no_link rows place within row read c.args.family))
    ∙ ap (λ (o : Option ℕ). with_before (links_of c.args.family rows) o c.args.before) (sym c.in-Some.is)

pub returns-in-Some-clause-others : goal.returns-in-Some-clause-others
returns-in-Some-clause-others g c =
    let rows = c.args.rows.now.items in
    let row = c.index_mut.result.now in
    let within = subst (λ (o : Option ℕ). IfSome o (λ p. p < length rows)) c.in-Some.is c.requires.place_in in
    column_other no_link rows c.in-Some.place within row c.index_mut.ensures.value c.args.family (record (get_or row c.args.family no_link) { before = c.args.before })
