use Rattle.std.proofs.Common.{take}
use Rattle.std.specs.Prelude.{All}
use Rattle.cell_core.specs.Forms.{IsStoredForm}
use Rattle.cell_core.proofs.forms.all_are_formed.Given as goal

abbrev pub invariant-loop-stored : goal.invariant-loop-stored
invariant-loop-stored l = All IsStoredForm (take l.stored-index l.cell)
