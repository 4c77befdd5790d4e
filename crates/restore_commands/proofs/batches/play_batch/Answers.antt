use Rattle.std.proofs.Common.{arith}
use Rattle.restore_commands.proofs.Idle.{plant_idle}
use Rattle.restore_commands.proofs.batches.play_batch.Goals as goal

pub returns-in-Ok-clause-loads : goal.returns-in-Ok-clause-loads
returns-in-Ok-clause-loads g c = λ told low slots has. c.play_plan.ensures.loads told slots has (c.in-Ok.ensures.needs low)

pub returns-in-Err-clause-looks : goal.returns-in-Err-clause-looks
returns-in-Err-clause-looks g c = plant_idle g.P.Plant c.args.plant.now _ c.requires.sound (λ told survives x left. g.met.P.Plant.left c.args.plant.now x told c.requires.sound survives left) (λ is. absurd (cc))

pub returns-in-Err-clause-loads : goal.returns-in-Err-clause-loads
returns-in-Err-clause-loads g c = λ told low slots has. omega arith
