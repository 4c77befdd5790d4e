-- What a cell in memory shows.
use Rattle.std.specs.Prelude.{ℕ, List, length}
use Rattle.media_core.specs.declared.plan.Plan.{Plan}
use Rattle.cell_core.specs.declared.stored.Stored.{Stored}
use Rattle.cell_core.specs.declared.mem.CellMem.{CellMem}

-- the list
abbrev pub cell_list : CellMem → List Stored
cell_list s = s.volumes.items

-- how many the list has, volumes and bad images together
abbrev pub cell_size : CellMem → ℕ
cell_size s = length s.volumes.items

-- the calls so far, and those that are to fail
abbrev pub cell_plan : CellMem → Plan
cell_plan s = s.plan

-- how often a call failed
abbrev pub cell_faults : CellMem → ℕ
cell_faults s = s.faults
