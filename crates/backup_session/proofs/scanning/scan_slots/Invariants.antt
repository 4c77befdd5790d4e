use Rattle.std.proofs.Common.{◌≡◌, length, take}
use Rattle.plant_effects.specs.Runs.{state_of, StaysQuiet}
use Rattle.tape_scan.specs.Looking.{Loads}
use Rattle.backup_session.specs.Scanning.{scans_of}
use Rattle.backup_session.proofs.scanning.scan_slots.Given as goal

abbrev pub invariant-loop-i : goal.invariant-loop-i
invariant-loop-i g l =
    let P = g.P.Plant in
    let old = l.fn.plant in
    record {
      tapes : P.tells → l.tapes ≡ scans_of (state_of P old).tape (take l.i l.slots);
      count : length l.tapes ≡ l.i;
      loads : Loads P old l.plant;
      stays : StaysQuiet P old l.plant;
      faults : (P.view l.plant).faults ≡ (P.view old).faults;
    }
