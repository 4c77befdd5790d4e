use Rattle.std.proofs.Common.{◌≡◌, ◌≤◌, ◌+◌, List, take, drop}
use Rattle.std.specs.Prelude.{find, ◌&&◌}
use Rattle.plant_effects.specs.Runs.{StaysQuiet}
use Rattle.tape_scan.specs.Slots.{Slot}
use Rattle.archive_model.specs.Holding.{numbered_from, holds}
use Rattle.tape_scan.specs.Looking.{HasSlots, Loads}
use Rattle.restore_chain.specs.Strays.{strays}
use Rattle.restore_chain.proofs.holders.holder_of.Given as goal

abbrev pub invariant-loop-slot : goal.invariant-loop-slot
invariant-loop-slot g l =
    let P = g.P.Plant in
    record {
      loads : Loads P l.fn.plant l.plant;
      stays : StaysQuiet P l.fn.plant l.plant;
      faults : (P.view l.plant).faults ≡ (P.view l.fn.plant).faults;
      none : P.tells → (slots : List Slot) → HasSlots P slots l.fn.plant → find (λ s. s.1.here && holds l.dump l.tape s.1.items) (numbered_from 0 slots) ≡ find (λ s. s.1.here && holds l.dump l.tape s.1.items) (numbered_from l.slot (drop l.slot slots));
      counted : P.tells → (slots : List Slot) → HasSlots P slots l.fn.plant → (P.view l.plant).loads ≤ (P.view l.fn.plant).loads + strays l.dump l.tape (take l.slot slots);
    }
