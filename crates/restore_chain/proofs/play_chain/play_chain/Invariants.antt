use Rattle.std.proofs.Common.{◌≡◌, List, None}
use Rattle.plant_effects.specs.Runs.{StaysQuiet}
use Rattle.tape_scan.specs.Slots.{Slot}
use Rattle.tape_scan.specs.Looking.{HasSlots, Loads}
use Rattle.restore_chain.specs.Restoring.{AreReady, HavePlayed}
use Rattle.restore_chain.proofs.play_chain.play_chain.Given as goal

abbrev pub invariant-loop-id : goal.invariant-loop-id
invariant-loop-id g l =
    let P = g.P.Plant in
    record {
      played : P.tells → (slots : List Slot) → HasSlots P slots l.fn.plant → AreReady slots l.budb.database.listed l.name l.ids l.tapes → HavePlayed slots l.budb.database.listed l.name l.ids l.id-index l.base l.rest;
      made : l.base ≡ None → l.id-index ≡ 0;
      loads : Loads P l.fn.plant l.plant;
      stays : StaysQuiet P l.fn.plant l.plant;
      faults : (P.view l.plant).faults ≡ (P.view l.fn.plant).faults;
    }
