-- The forms of a cell's list: it is a cell's, and each volume is one of the types.
use Rattle.std.specs.Prelude.{List, All}
use Rattle.cell_core.specs.declared.stored.Stored.{Stored}
use Rattle.cell_core.specs.Cells.{IsCell}
use Rattle.cell_core.specs.Forms.{IsStoredForm}

-- The names ascend, no more are there than a cell takes, each name is its volume's, and each number and text of a volume fits its type.
pub record IsCellForm (cell : List Stored) : Type 0 where
  pub list : IsCell cell
  pub volumes : All IsStoredForm cell
