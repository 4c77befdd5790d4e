use Rattle.crash_log.proofs.OpenedLemmas.{same_twice}
use Rattle.crash_log.proofs.open.read_slots.Goals as goal

pub returns-clause-crash : goal.returns-clause-crash
returns-clause-crash g c = λ told. same_twice g.M.Media.time c.args.media.now c.read_slot.new.media c.read_slot-2.new.media (c.read_slot.ensures.crash told) (c.read_slot-2.ensures.crash told)
