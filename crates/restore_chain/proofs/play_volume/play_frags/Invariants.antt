use Rattle.std.proofs.Common.{◌≡◌, List, take}
use Rattle.plant_effects.specs.Runs.{StaysQuiet}
use Rattle.dump_stream.specs.Inputs.{IsOpen}
use Rattle.budb_changes.specs.declared.records.DumpRecordFields.{DumpRecordFields}
use Rattle.tape_scan.specs.Slots.{Slot}
use Rattle.archive_model.specs.Holding.{called_frags}
use Rattle.tape_scan.specs.Looking.{HasSlots, Loads}
use Rattle.restore_chain.specs.Playing.{AreHeld, HaveStood}
use Rattle.restore_chain.proofs.play_volume.play_frags.Given as goal

abbrev pub invariant-loop-place : goal.invariant-loop-place
invariant-loop-place g l =
    let P = g.P.Plant in
    let cs = called_frags l.fn.id l.fn.index 1 l.fn.volume l.fn.volume.frags in
    record {
      stood : P.tells → (slots : List Slot) (d : DumpRecordFields) → HasSlots P slots l.fn.plant → AreHeld slots d cs l.fn.needs → HaveStood slots d (take l.place cs) l.last l.fn.joined l.joined;
      is_open : IsOpen l.joined.input;
      loads : Loads P l.fn.plant l.plant;
      stays : StaysQuiet P l.fn.plant l.plant;
      faults : (P.view l.plant).faults ≡ (P.view l.fn.plant).faults;
    }
