use Rattle.std.proofs.Common.{take}
use Rattle.rehearsal.specs.Playing.{Stage, played, AllFindHeld, Reached}
use Rattle.rehearsal.proofs.playing.play.Given as goal

abbrev pub invariant-loop-batch : goal.invariant-loop-batch
invariant-loop-batch g l =
    let P = g.P.Plant in
    let C = g.C.Cell in
    record {
      sound : P.sound l.plant;
      played : P.tells → C.tells → (s : Stage) → Reached P C s l.fn.plant l.fn.cell l.fn.session l.fn.told → AllFindHeld s l.batches
          → Reached P C (played s (take l.batch-index l.batches)) l.plant l.cell l.session l.told;
    }
