use Rattle.std.proofs.Common.{ℕ, ◌≤◌, List, length, true, sym, subst}
use Rattle.media_core.specs.Later.{later}
use Rattle.backup_session.specs.Worlds.{at_moment}
use Rattle.backup_session.specs.Held.{HeldFor}
use Rattle.backup_session.specs.Machine.{turn}
use Rattle.backup_script.specs.Scripts.{command_told}
use Rattle.backup_script.specs.Running.{LineRan, TurnLeft, HasUsed}
use Rattle.backup_script.proofs.ItemLaws.{first_is, later_fewer, later_used}
use Rattle.backup_script.proofs.serving.run_next.Goals as goal

pub returns-in-Ok-clause-went : goal.returns-in-Ok-clause-went
returns-in-Ok-clause-went g c = λ told tells_cell tells_clock w fits held.
    let P = g.P.Plant in
    let ms = g.K.Clock.moments c.args.clock.now in
    let is = first_is ms c.now-now.result (c.now-now.ensures.first tells_clock) in
    subst (λ (n : ℕ). LineRan P g.C.Cell (command_told w ms (turn w n c.args.command.now)) c.args.plant.now c.run_command.new.plant c.run_command.new.cell c.run_command.new.session (g.K.Clock.moments c.now-now.new.self) true)
    (sym is)
    (subst (λ (left : List ℕ). LineRan P g.C.Cell (command_told w ms (turn w c.now-now.result c.args.command.now)) c.args.plant.now c.run_command.new.plant c.run_command.new.cell c.run_command.new.session left true)
    (sym (c.now-now.ensures.rest tells_clock)) (c.in-Ok.ensures.went told tells_cell w fits (subst (λ (n : ℕ). HeldFor (at_moment w n) c.args.command.now) is held) ms))

pub returns-in-Err-clause-left : goal.returns-in-Err-clause-left
returns-in-Err-clause-left g c = λ told tells_cell tells_clock w fits held.
    let P = g.P.Plant in
    let n = c.run_command.new in
    let ms = g.K.Clock.moments c.args.clock.now in
    let is = first_is ms c.now-now.result (c.now-now.ensures.first tells_clock) in
    subst (λ (m : ℕ). TurnLeft P g.C.Cell w (later ms) (turn w m c.args.command.now) c.args.plant.now n.plant n.cell (g.K.Clock.moments c.now-now.new.self))
    (sym is)
    (subst (λ (left : List ℕ). TurnLeft P g.C.Cell w (later ms) (turn w c.now-now.result c.args.command.now) c.args.plant.now n.plant n.cell left)
    (sym (c.now-now.ensures.rest tells_clock)) (c.in-Err.ensures.left told tells_cell w fits (subst (λ (m : ℕ). HeldFor (at_moment w m) c.args.command.now) is held) (later ms)))

pub returns-in-Ok-clause-fewer : goal.returns-in-Ok-clause-fewer
returns-in-Ok-clause-fewer g c = λ tells_clock.
    let ms = g.K.Clock.moments c.args.clock.now in
    subst (λ (left : List ℕ). length left ≤ length ms) (sym (c.now-now.ensures.rest tells_clock)) (later_fewer ms)

pub returns-in-Err-clause-fewer : goal.returns-in-Err-clause-fewer
returns-in-Err-clause-fewer g c = λ tells_clock.
    let ms = g.K.Clock.moments c.args.clock.now in
    subst (λ (left : List ℕ). length left ≤ length ms) (sym (c.now-now.ensures.rest tells_clock)) (later_fewer ms)

pub returns-in-Err-clause-used : goal.returns-in-Err-clause-used
returns-in-Err-clause-used g c = λ tells_clock stops.
    let ms = g.K.Clock.moments c.args.clock.now in
    subst (λ (left : List ℕ). HasUsed ms left) (sym (c.now-now.ensures.rest tells_clock)) (later_used ms)

pub returns-in-Err-clause-plant_used : goal.returns-in-Err-clause-plant_used
returns-in-Err-clause-plant_used g c = λ tells_clock stops.
    let ms = g.K.Clock.moments c.args.clock.now in
    subst (λ (left : List ℕ). HasUsed ms left) (sym (c.now-now.ensures.rest tells_clock)) (later_used ms)
