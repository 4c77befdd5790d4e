use Rattle.mount_rows.proofs.running.give_all.Given as goal

abbrev pub invariant-loop-line : goal.invariant-loop-line
invariant-loop-line g l = record { sound : g.P.Plant.sound l.plant }
