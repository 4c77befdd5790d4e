use Rattle.crash_log.proofs.Formatting.{open_empties, open_has}
use Rattle.crash_log.specs.Fit.{as_read}
use Rattle.crash_log.proofs.Reading.{still_read}
use Rattle.crash_log.proofs.format.open_first.Goals as goal

pub returns-in_err-settle-clause-crash : goal.returns-in_err-settle-clause-crash
returns-in_err-settle-clause-crash g c = λ told has.
    let m = g.M.Media in
    open_empties m.time m.seen c.args.f c.args.media.now c.settle.new.media has (c.settle.ensures.crash told)

pub returns-clause-crash : goal.returns-clause-crash
returns-clause-crash g c = λ told has.
    let m = g.M.Media in
    open_empties m.time m.seen c.args.f c.args.media.now c.settle.new.media has (c.settle.ensures.crash told)

pub returns-clause-formatted : goal.returns-clause-formatted
returns-clause-formatted g c = λ told.
    let m = g.M.Media in
    open_has (as_read m.seen) m.seen c.args.f c.args.media.now c.settle.new.media (c.requires.placed told) (c.in_ok-settle.ensures.written told).here (still_read m.seen c.args.f c.settle.new.media)
