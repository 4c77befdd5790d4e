use Rattle.dump_laws.proofs.EventLaws.{each_event}
use Rattle.dump_laws.proofs.events.each_event_keeps.Goals as goal

pub returns : goal.returns
returns c = each_event
