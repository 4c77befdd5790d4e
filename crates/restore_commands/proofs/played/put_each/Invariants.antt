use Rattle.std.proofs.Common.{◌≡◌, take, drop}
use Rattle.std.specs.Prelude.{All}
use Rattle.std.specs.Vec.Iter.{into_iter_items}
use Rattle.archive_model.specs.Archives.{Archive, listed_of}
use Rattle.mount_plan.specs.Outcomes.{IsPlayed}
use Rattle.restore_commands.specs.Leaving.{MayPutEach}
use Rattle.restore_commands.specs.Steps.{AreFound, ArePut}
use Rattle.restore_commands.proofs.played.put_each.Given as goal

abbrev pub invariant-loop-choice : goal.invariant-loop-choice
invariant-loop-choice g l =
    let C = g.C.Cell in
    record {
      told : All IsPlayed (into_iter_items l.left);
      cell_faults : C.faults l.cell ≡ C.faults l.fn.cell;
      found : (a : Archive) → AreFound a l.batch l.fn.played → AreFound a (drop l.choice-index l.batch) (into_iter_items l.left);
      put : C.tells → (a : Archive) → listed_of a ≡ l.budb.database.listed → AreFound a l.batch l.fn.played → ArePut a l.manner l.batch (C.list l.fn.cell) (drop l.choice-index l.batch) l.fn.lines l.lines (C.list l.cell);
      puts : C.tells → MayPutEach l.manner (take l.choice-index l.batch) (C.list l.fn.cell) (C.list l.cell);
    }
