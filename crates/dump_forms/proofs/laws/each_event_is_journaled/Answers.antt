use Rattle.dump_forms.proofs.JournalLaws.{event_journaled}
use Rattle.dump_forms.proofs.laws.each_event_is_journaled.Goals as goal

pub returns : goal.returns
returns c = event_journaled
