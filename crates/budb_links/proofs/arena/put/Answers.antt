use Rattle.budb_links.specs.Chained.{no_link}
use Rattle.budb_links.specs.declared.arena.TheConstants.{FAMILIES}
use Rattle.budb_links.proofs.Columns.{column_same, column_other}
use Rattle.budb_links.proofs.arena.put.Goals as goal

pub returns-clause-links : goal.returns-clause-links
returns-clause-links g c =
    column_same no_link c.args.rows.now.items c.args.place c.requires.place_in c.index_mut.result.now c.index_mut.ensures.value FAMILIES c.requires.wide c.args.family c.args.link c.requires.family_in

pub returns-clause-others : goal.returns-clause-others
returns-clause-others g c =
    column_other no_link c.args.rows.now.items c.args.place c.requires.place_in c.index_mut.result.now c.index_mut.ensures.value c.args.family c.args.link
