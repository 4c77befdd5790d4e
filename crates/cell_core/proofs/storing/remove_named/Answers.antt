use Rattle.std.proofs.Common.{List, sym, subst}
use Rattle.cell_core.specs.declared.stored.Stored.{Stored}
use Rattle.cell_core.specs.Places.{FoundAt}
use Rattle.cell_core.specs.Listings.{name_order}
use Rattle.cell_core.specs.Cells.{name_of, IsCell}
use Rattle.cell_core.proofs.CellLaws.{is_cell_remove}
use Rattle.cell_core.proofs.storing.remove_named.Goals as goal

pub returns-in-Ok-clause-cell : goal.returns-in-Ok-clause-cell
returns-in-Ok-clause-cell c =
    let found : FoundAt name_order name_of c.args.name.now c.args.cell.now.items c.in-Ok.at = subst (λ (l : List Stored). FoundAt name_order name_of c.args.name.now l c.in-Ok.at) c.deref.ensures.value c.in-Ok.ensures in
    subst IsCell (sym c.take_out.ensures) (is_cell_remove c.args.name.now c.args.cell.now.items c.in-Ok.at c.requires found)
