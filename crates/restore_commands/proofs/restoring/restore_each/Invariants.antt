use Rattle.std.proofs.Common.{◌≡◌, take, drop}
use Rattle.plant_effects.specs.Runs.{StaysQuiet}
use Rattle.tape_scan.specs.Looking.{Loads}
use Rattle.archive_model.specs.Archives.{Archive}
use Rattle.restore_commands.specs.Leaving.{IsArchiveOf, MayPutEach}
use Rattle.restore_commands.specs.Steps.{SoFar}
use Rattle.restore_commands.proofs.restoring.restore_each.Given as goal

abbrev pub invariant-loop-choice : goal.invariant-loop-choice
invariant-loop-choice g l =
    let P = g.P.Plant in
    let C = g.C.Cell in
    record {
      loads : Loads P l.fn.plant l.plant;
      stays : StaysQuiet P l.fn.plant l.plant;
      faults : (P.view l.plant).faults ≡ (P.view l.fn.plant).faults;
      cell_faults : C.faults l.cell ≡ C.faults l.fn.cell;
      so_far : P.tells → C.tells → (a : Archive) → IsArchiveOf P l.budb.database.listed a l.fn.plant → SoFar a l.manner l.choices (C.list l.fn.cell) (drop l.choice-index l.choices) l.lines (C.list l.cell);
      puts : C.tells → MayPutEach l.manner (take l.choice-index l.choices) (C.list l.fn.cell) (C.list l.cell);
    }
