use Rattle.std.proofs.Common.{List, sym, subst}
use Rattle.dir_cell.specs.declared.known.Known.{Known}
use Rattle.cell_core.specs.Places.{FoundAt}
use Rattle.cell_core.specs.Listings.{name_order}
use Rattle.dir_cell.specs.Catalogs.{name_of, IsCatalog}
use Rattle.dir_cell.proofs.CatalogLaws.{catalog_remove}
use Rattle.dir_cell.proofs.catalog.forget.Goals as goal

pub returns-in-Ok-clause-catalog : goal.returns-in-Ok-clause-catalog
returns-in-Ok-clause-catalog c =
    let found : FoundAt name_order name_of c.args.name.now c.args.catalog.now.items c.in-Ok.at = subst (λ (l : List Known). FoundAt name_order name_of c.args.name.now l c.in-Ok.at) c.deref.ensures.value c.in-Ok.ensures in
    subst IsCatalog (sym c.take_out.ensures) (catalog_remove c.args.name.now c.args.catalog.now.items c.in-Ok.at c.requires found)
