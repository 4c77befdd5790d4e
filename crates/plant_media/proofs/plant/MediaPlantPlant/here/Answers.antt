use Rattle.std.proofs.Common.{◌+◌, arith}
use Rattle.plant_media.proofs.Calling.{slot_here, none_here}
use Rattle.plant_media.proofs.plant.MediaPlantPlant.here.Goals as goal

pub returns-in-Some : goal.returns-in-Some
returns-in-Some g c = slot_here (g.M.Media.present c.args.self.now.media) c.args.slot c.in-Some.f c.here.result c.here.ensures (omega (arith, c.in-Some.ensures))

pub returns-in-None : goal.returns-in-None
returns-in-None g c = none_here (g.M.Media.present c.args.self.now.media) c.args.slot (λ is.
    absurd (omega (arith, c.in-None.ensures, g.met.M.Media.here_below c.args.self.now.media (c.args.slot + 1) is, g.met.M.Media.few_files c.args.self.now.media)))
