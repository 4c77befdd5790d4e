use Rattle.std.proofs.Common.{take}
use Rattle.media_core.specs.Tracks.{Tracks}
use Rattle.media_core.proofs.replay.all_picked.Given as goal

abbrev pub invariant-loop-event : goal.invariant-loop-event
invariant-loop-event l = Tracks l.pick (take l.event-index l.past) l.files.items l.picked.items
