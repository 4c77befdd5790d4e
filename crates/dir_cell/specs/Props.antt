-- What is said of a catalog has one proof at most.
use Rattle.std.proofs.Common.{List}
use Rattle.std.proofs.Props.{props}
use Rattle.dir_cell.specs.declared.known.Known.{Known}
use Rattle.dir_cell.specs.Catalogs.{IsCatalog}

pub catalog_prop : (catalog : List Known) → IsProp (IsCatalog catalog)
catalog_prop catalog = hlevel props
