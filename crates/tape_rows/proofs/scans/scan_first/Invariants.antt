use Rattle.tape_rows.proofs.scans.scan_first.Given as goal

abbrev pub invariant-loop-slot : goal.invariant-loop-slot
invariant-loop-slot g l = record { sound : g.P.Plant.sound l.plant }
