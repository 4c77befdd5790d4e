use Rattle.std.proofs.Common.{[]}
use Rattle.plant_effects.proofs.Joining.{reads_left}
use Rattle.plant_effects.proofs.log.read_log.Goals as goal

pub returns-in_err-log_read-clause-leaves : goal.returns-in_err-log_read-clause-leaves
returns-in_err-log_read-clause-leaves g c =
    let P = g.P.Plant in
    let laws = g.met.P.Plant in
    let old = c.args.plant.now in
    let new = c.log_read.new.self in
    reads_left P [] old new (λ told survives image left. laws.left old image told c.requires.sound survives left) c.log_read.ensures.crash c.log_read.ensures.stays

pub returns-clause-leaves : goal.returns-clause-leaves
returns-clause-leaves g c =
    let P = g.P.Plant in
    let laws = g.met.P.Plant in
    let old = c.args.plant.now in
    let new = c.log_read.new.self in
    reads_left P [] old new (λ told survives image left. laws.left old image told c.requires.sound survives left) c.log_read.ensures.crash c.log_read.ensures.stays
