use Rattle.std.proofs.Common.{[], ◌∷◌}
use Rattle.plant_effects.proofs.Joining.{nothing_left}
use Rattle.tape_text.specs.Items.{Says}
use Rattle.tape_writer.specs.Puts.{puts_on}
use Rattle.tape_writer.proofs.writer.Writer.put_open.Goals as goal

pub returns-then-not-has_room-clause-leaves : goal.returns-then-not-has_room-clause-leaves
returns-then-not-has_room-clause-leaves g c = λ k f at same. nothing_left g.P.Plant (puts_on k (Says f ∷ [])) c.args.plant.now (λ told survives image left. g.met.P.Plant.left c.args.plant.now image told c.requires.counted.sound survives left)
