use Rattle.dump_laws.proofs.EventLaws.{image_holds}
use Rattle.dump_laws.proofs.events.each_image_holds.Goals as goal

pub returns : goal.returns
returns c = image_holds
