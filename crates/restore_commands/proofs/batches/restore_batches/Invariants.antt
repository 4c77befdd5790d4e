use Rattle.std.proofs.Common.{◌≡◌, ◌≤◌, ◌+◌, List}
use Rattle.std.specs.Prelude.{All}
use Rattle.std.specs.Slice.Iter.{chunks_rest, chunks_size}
use Rattle.plant_effects.specs.Runs.{StaysQuiet}
use Rattle.budb_fold.specs.Chains.{HaveParentsBelow}
use Rattle.tape_scan.specs.Slots.{Slot}
use Rattle.tape_scan.specs.Looking.{HasSlots, Loads}
use Rattle.cell_core.specs.declared.stored.Stored.{Stored}
use Rattle.archive_model.specs.Archives.{Archive}
use Rattle.restore_commands.specs.Leaving.{IsArchiveOf, MayPutEach}
use Rattle.restore_commands.specs.Steps.{SoFar, IsLatest}
use Rattle.restore_commands.specs.Batches.{batch_loads}
use Rattle.restore_commands.proofs.batches.restore_batches.Given as goal

abbrev pub invariant-loop-batch : goal.invariant-loop-batch
invariant-loop-batch g l =
    let P = g.P.Plant in
    let C = g.C.Cell in
    record {
      next : (goal.iterator-loop-batch g).can_next l.batch-iterator;
      ends : (goal.iterator-loop-batch g).is_finite l.batch-iterator;
      size : chunks_size l.batch-iterator ≡ 16;
      latest : All IsLatest (chunks_rest l.batch-iterator);
      loads : Loads P l.fn.plant l.plant;
      stays : StaysQuiet P l.fn.plant l.plant;
      faults : (P.view l.plant).faults ≡ (P.view l.fn.plant).faults;
      cell_faults : C.faults l.cell ≡ C.faults l.fn.cell;
      so_far : P.tells → C.tells → (a : Archive) → IsArchiveOf P l.budb.database.listed a l.fn.plant → SoFar a l.manner l.choices (C.list l.fn.cell) (chunks_rest l.batch-iterator) l.lines (C.list l.cell);
      puts : C.tells → (new : List Stored) → MayPutEach l.manner (chunks_rest l.batch-iterator) (C.list l.cell) new → MayPutEach l.manner l.choices (C.list l.fn.cell) new;
      counted : P.tells → HaveParentsBelow l.budb.database.listed → (slots : List Slot) → HasSlots P slots l.fn.plant
          → (P.view l.plant).loads + batch_loads slots l.budb.database.listed (chunks_rest l.batch-iterator) ≤ (P.view l.fn.plant).loads + batch_loads slots l.budb.database.listed l.choices;
    }
