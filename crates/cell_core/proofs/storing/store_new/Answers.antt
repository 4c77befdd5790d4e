use Rattle.cell_core.proofs.CellLaws.{is_cell_stored}
use Rattle.cell_core.proofs.storing.store_new.Goals as goal

pub returns-clause-cell : goal.returns-clause-cell
returns-clause-cell c =
    is_cell_stored c.args.cell.now.items c.insert_at.new.items.items c.args.at c.args.stored c.insert_at.result c.requires.cell c.requires.image c.requires.free c.requires.room c.insert_at.ensures.ok c.insert_at.ensures.err
