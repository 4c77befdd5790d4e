use Rattle.std.proofs.Common.{take}
use Rattle.rehearsal.specs.Playing.{Stage, given, FindsHeld, Reached}
use Rattle.rehearsal.proofs.playing.give_all.Given as goal

abbrev pub invariant-loop-command : goal.invariant-loop-command
invariant-loop-command g l =
    let P = g.P.Plant in
    let C = g.C.Cell in
    record {
      sound : P.sound l.plant;
      given : P.tells → C.tells → (s : Stage) → Reached P C s l.fn.plant l.fn.cell l.fn.session l.fn.told → FindsHeld s l.now l.commands
          → Reached P C (given s l.now (take l.command-index l.commands)) l.plant l.cell l.session l.told;
    }
