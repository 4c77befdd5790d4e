use Rattle.std.proofs.Common.{◌≡◌, ℕ, List, ◌≤◌, ◌+◌, ◌-◌, length}
use Rattle.std.specs.Str.Lines.{lines}
use Rattle.plant_effects.specs.Runs.{state_of, Stays}
use Rattle.backup_session.specs.Worlds.{World}
use Rattle.backup_session.specs.Fitting.{Fits}
use Rattle.backup_script.specs.Held.{IsHeldThroughout}
use Rattle.backup_script.specs.Running.{IsWatched}
use Rattle.backup_script.proofs.LoopLaws.{Reading, Serving}
use Rattle.backup_script.proofs.serve.run_script.Given as goal

abbrev pub invariant-loop-taken : goal.invariant-loop-taken
invariant-loop-taken g l =
    let P = g.P.Plant in
    let left = g.S.Source.left in
    record {
      within : l.taken ≤ 16777217;
      sound : P.sound l.plant;
      stays : Stays P l.fn.plant l.plant;
      plant_faults : (P.view l.plant).faults ≡ (P.view l.fn.plant).faults;
      cell_faults : g.C.Cell.faults l.cell ≡ g.C.Cell.faults l.fn.cell;
      output_faults : (P.view l.plant).tell_faults ≡ (P.view l.fn.plant).tell_faults;
      read_faults : g.S.Source.faults l.source ≡ g.S.Source.faults l.fn.source;
      fewer : g.K.Clock.tells → length (g.K.Clock.moments l.clock) ≤ length (g.K.Clock.moments l.fn.clock);
      count : g.S.Source.tells → length (left l.fn.source) ≡ length (left l.source) + l.taken;
      reading : g.S.Source.tells → (ran : List (List ℕ)) × Reading (left l.fn.source) (left l.source) ran;
      serving : P.tells → g.C.Cell.tells → g.K.Clock.tells → g.S.Source.tells → (w : World) → Fits P g.C.Cell w l.fn.plant l.fn.cell l.fn.session
          → IsHeldThroughout w (g.K.Clock.moments l.fn.clock) (lines (left l.fn.source)) → Serving P g.C.Cell w (g.K.Clock.moments l.fn.clock) (left l.fn.source) l.fn.plant l.plant l.cell l.session (g.K.Clock.moments l.clock) (left l.source);
      watching : P.tells → g.C.Cell.tells → (w : World) → Fits P g.C.Cell w l.fn.plant l.fn.cell l.fn.session → IsWatched P g.C.Cell (state_of P l.fn.plant).told l.plant l.cell l.session l.watch;
    }

abbrev pub decreases-loop-taken : goal.decreases-loop-taken
decreases-loop-taken g l = 16777217 - l.taken
