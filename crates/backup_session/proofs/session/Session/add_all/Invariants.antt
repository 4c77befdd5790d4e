use Rattle.std.proofs.Common.{◌≡◌, take}
use Rattle.plant_effects.specs.Runs.{Leaves, StaysQuiet}
use Rattle.backup_session.specs.Worlds.{World}
use Rattle.backup_session.specs.Scanning.{adding}
use Rattle.backup_session.specs.Fitting.{FitsPlant, Stepped}
use Rattle.backup_session.proofs.session.Session.add_all.Given as goal

abbrev pub invariant-loop-dump : goal.invariant-loop-dump
invariant-loop-dump g l =
    let P = g.P.Plant in
    let old = l.fn.plant in
    record {
      sound : P.sound l.plant;
      stepped : P.tells → (w : World) → FitsPlant P w old l.fn.self → Stepped P w (adding w (take l.dump-index l.dumps)).turn old l.plant l.self l.fn.lines l.lines;
      full : P.tells → (w : World) → FitsPlant P w old l.fn.self → l.full ≡ (adding w (take l.dump-index l.dumps)).full;
      leaves : P.tells → (w : World) → FitsPlant P w old l.fn.self → Leaves P (adding w (take l.dump-index l.dumps)).turn.effects old l.plant;
      stays : StaysQuiet P old l.plant;
      faults : (P.view l.plant).faults ≡ (P.view old).faults;
    }
