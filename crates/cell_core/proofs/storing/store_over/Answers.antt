use Rattle.std.proofs.Common.{refl, sym, ◌∙◌, subst}
use Rattle.cell_core.specs.Cells.{IsCell}
use Rattle.cell_core.proofs.CellLaws.{with_found, is_cell_set}
use Rattle.cell_core.proofs.storing.store_over.Goals as goal

pub returns-clause-stored : goal.returns-clause-stored
returns-clause-stored c = c.replace_at.ensures ∙ sym (with_found c.args.stored.name c.args.cell.now.items c.args.at c.args.stored refl c.requires.found)

pub returns-clause-cell : goal.returns-clause-cell
returns-clause-cell c =
    subst IsCell (sym c.replace_at.ensures) (is_cell_set c.args.stored.name c.args.cell.now.items c.args.at c.args.stored refl c.requires.cell c.requires.image c.requires.found)
