use Rattle.std.proofs.Common.{[]}
use Rattle.plant_effects.proofs.Joining.{reads_left}
use Rattle.plant_effects.proofs.tape.peek_record.Goals as goal

pub returns-clause-leaves : goal.returns-clause-leaves
returns-clause-leaves g c =
    let P = g.P.Plant in
    let laws = g.met.P.Plant in
    let old = c.args.plant.now in
    let new = c.peek.new.self in
    reads_left P [] old new (λ told survives image left. laws.left old image told c.requires.sound survives left) c.peek.ensures.crash c.peek.ensures.stays
