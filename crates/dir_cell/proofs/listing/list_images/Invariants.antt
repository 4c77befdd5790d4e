use Rattle.dir_cell.specs.Catalogs.{IsCatalog}
use Rattle.dir_cell.proofs.listing.list_images.Given as goal

abbrev pub invariant-loop-found : goal.invariant-loop-found
invariant-loop-found g l =
    (goal.iterator-loop-found g).can_next l.found-iterator ×
    (goal.iterator-loop-found g).is_finite l.found-iterator ×
    IsCatalog l.images.items
