use Rattle.std.proofs.Common.{◌≡◌, ◌≤◌, ◌-◌}
use Rattle.std.specs.List.{filter, range_with_len}
use Rattle.backup_session.proofs.scanning.slots_here.Given as goal

abbrev pub invariant-loop-slot : goal.invariant-loop-slot
invariant-loop-slot g l =
    let P = g.P.Plant in
    record {
      slots : l.slots ≡ filter (P.view l.plant).present (range_with_len l.port.first (l.slot - l.port.first));
      above : l.port.first ≤ l.slot;
    }
