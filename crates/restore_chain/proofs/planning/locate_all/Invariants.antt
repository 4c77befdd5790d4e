use Rattle.std.proofs.Common.{◌≡◌, List, Some, map, take, drop}
use Rattle.std.specs.Prelude.{find}
use Rattle.plant_effects.specs.Runs.{StaysQuiet}
use Rattle.tape_scan.specs.Slots.{Slot}
use Rattle.archive_model.specs.Archives.{is_missing}
use Rattle.tape_scan.specs.Looking.{HasSlots, Loads}
use Rattle.restore_chain.specs.Planning.{located}
use Rattle.restore_chain.proofs.planning.locate_all.Given as goal

abbrev pub invariant-loop-need : goal.invariant-loop-need
invariant-loop-need g l =
    let P = g.P.Plant in
    record {
      loads : Loads P l.fn.plant l.plant;
      stays : StaysQuiet P l.fn.plant l.plant;
      faults : (P.view l.plant).faults ≡ (P.view l.fn.plant).faults;
      located : P.tells → (slots : List Slot) → HasSlots P slots l.fn.plant → map (located slots) (take l.need-index l.needs) ≡ map Some l.tapes;
      none : P.tells → (slots : List Slot) → HasSlots P slots l.fn.plant → find (is_missing slots) l.needs ≡ find (is_missing slots) (drop l.need-index l.needs);
    }
