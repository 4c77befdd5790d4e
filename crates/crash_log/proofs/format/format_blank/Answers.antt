use Rattle.crash_log.proofs.Formatting.{empties_twice}
use Rattle.crash_log.specs.Format.{IsFront}
use Rattle.crash_log.proofs.Reading.{has_still}
use Rattle.crash_log.proofs.format.format_blank.Goals as goal

pub returns-in_err-write_end-clause-crash : goal.returns-in_err-write_end-clause-crash
returns-in_err-write_end-clause-crash g c = λ told still.
    let m = g.M.Media in
    let front = has_still m.time m.seen IsFront c.args.f c.write_front.new.media (c.in_ok-write_front.ensures.still told) (c.in_ok-write_front.ensures.front told) in
    empties_twice m.time c.args.f c.args.media.now c.write_front.new.media c.write_end.new.media (c.write_front.ensures.crash told still) (c.write_end.ensures.crash told front)

pub returns-clause-crash : goal.returns-clause-crash
returns-clause-crash g c = λ told still.
    let m = g.M.Media in
    let front = has_still m.time m.seen IsFront c.args.f c.write_front.new.media (c.in_ok-write_front.ensures.still told) (c.in_ok-write_front.ensures.front told) in
    empties_twice m.time c.args.f c.args.media.now c.write_front.new.media c.write_end.new.media (c.write_front.ensures.crash told still) (c.write_end.ensures.crash told front)
