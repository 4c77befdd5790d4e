use Rattle.dump_laws.proofs.EventLaws.{event_image}
use Rattle.dump_laws.proofs.events.each_image_of_an_event_holds.Goals as goal

pub returns : goal.returns
returns c = event_image
