use Rattle.plant_effects.proofs.OutputCalls.{replaces_step}
use Rattle.plant_effects.proofs.log.replace_whole.Goals as goal

pub returns-in_err-log_replace-clause-leaves : goal.returns-in_err-log_replace-clause-leaves
returns-in_err-log_replace-clause-leaves g c =
    let P = g.P.Plant in
    let laws = g.met.P.Plant in
    let old = c.args.plant.now in
    let new = c.log_replace.new.self in
    replaces_step P c.args.bytes.now old new (λ told survives image left. laws.left old image told c.requires survives left) c.log_replace.ensures.crash c.log_replace.ensures.stays

pub returns-clause-leaves : goal.returns-clause-leaves
returns-clause-leaves g c =
    let P = g.P.Plant in
    let laws = g.met.P.Plant in
    let old = c.args.plant.now in
    let new = c.log_replace.new.self in
    replaces_step P c.args.bytes.now old new (λ told survives image left. laws.left old image told c.requires survives left) c.log_replace.ensures.crash c.log_replace.ensures.stays
