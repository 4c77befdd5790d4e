use Rattle.script_rows.proofs.tapes.words.Given as goal

abbrev pub invariant-loop-i : goal.invariant-loop-i
invariant-loop-i g l = record { sound : g.P.Plant.sound l.plant }
