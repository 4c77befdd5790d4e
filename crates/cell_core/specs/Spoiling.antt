-- A bad image in place of what stands under a name.
use Rattle.std.specs.Prelude.{ℕ, Option, Some, None, List}
use Rattle.cell_core.specs.declared.stored.Stored.{Stored}
use Rattle.cell_core.specs.declared.stored.Image.TheVariants.{Bad}
use Rattle.cell_core.specs.Cells.{stored_as, with_stored}

-- a cell with a bad image, wrong at byte `at`, in place of what stands here; the same list where nothing does
abbrev pub spoilt_where : Option Stored → ℕ → List Stored → List Stored
spoilt_where (Some s) at cell = with_stored (record s { image = Bad at }) cell
spoilt_where None at cell = cell

-- a cell in which what stands under a name is bad at this place; where nothing stands there it stays
abbrev pub spoilt : List ℕ → ℕ → List Stored → List Stored
spoilt name at cell = spoilt_where (stored_as name cell) at cell
