use Rattle.dir_cell.proofs.CatalogLaws.{found_name}
use Rattle.dir_cell.proofs.catalog.known_as.Goals as goal

pub returns-in-Ok-clause-named : goal.returns-in-Ok-clause-named
returns-in-Ok-clause-named c = found_name c.args.name.now c.args.catalog.now c.in-Ok.at c.index-catalog-at.result c.in-Ok.ensures c.index-catalog-at.is
