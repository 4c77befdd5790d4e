use Rattle.mount_rows.proofs.rows.dump_at.Given as goal

abbrev pub invariant-loop-step : goal.invariant-loop-step
invariant-loop-step g l = record { sound : g.P.Plant.sound l.plant }
