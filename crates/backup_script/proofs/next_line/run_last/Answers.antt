use Rattle.backup_script.proofs.ServingLaws.{ran_alone}
use Rattle.backup_script.proofs.next_line.run_last.Goals as goal

pub returns-in-Ok-clause-ran : goal.returns-in-Ok-clause-ran
returns-in-Ok-clause-ran g c = λ told tells_cell tells_clock w fits held.
    ran_alone g.P.Plant g.C.Cell w (g.K.Clock.moments c.args.clock.now) c.args.line.now c.args.plant.now c.run_line.new.plant c.run_line.new.cell c.run_line.new.session (g.K.Clock.moments c.run_line.new.clock) c.in-Ok.field-0.goes
    (c.in-Ok.ensures.went told tells_cell tells_clock w fits held)
