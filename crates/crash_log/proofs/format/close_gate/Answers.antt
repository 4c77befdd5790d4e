use Rattle.crash_log.proofs.Formatting.{close_empties, close_has, close_shut, close_others, idle_empties}
use Rattle.crash_log.specs.Fit.{as_read}
use Rattle.crash_log.proofs.Reading.{still_read}
use Rattle.crash_log.proofs.format.close_gate.Goals as goal

pub returns-in_err-settle-clause-crash : goal.returns-in_err-settle-clause-crash
returns-in_err-settle-clause-crash g c = λ told has.
    let m = g.M.Media in
    close_empties m.time m.seen c.args.f c.args.media.now c.settle.new.media c.args.base c.requires.base has ((c.requires.gate told).0 c.if-is_open.true) (c.settle.ensures.crash told)

pub returns-then-is_open-clause-crash : goal.returns-then-is_open-clause-crash
returns-then-is_open-clause-crash g c = λ told has.
    let m = g.M.Media in
    close_empties m.time m.seen c.args.f c.args.media.now c.settle.new.media c.args.base c.requires.base has ((c.requires.gate told).0 c.if-is_open.true) (c.settle.ensures.crash told)

pub returns-then-is_open-clause-bad : goal.returns-then-is_open-clause-bad
returns-then-is_open-clause-bad g c = λ told.
    let m = g.M.Media in
    close_has (as_read m.seen) m.seen c.args.f c.args.media.now c.settle.new.media c.args.base c.requires.base (c.requires.bad told) ((c.requires.gate told).0 c.if-is_open.true) (c.in_ok-settle.ensures.written told).here (still_read m.seen c.args.f c.settle.new.media)

pub returns-then-is_open-clause-survives : goal.returns-then-is_open-clause-survives
returns-then-is_open-clause-survives g c = λ told has.
    let m = g.M.Media in
    close_has m.time m.seen c.args.f c.args.media.now c.settle.new.media c.args.base c.requires.base has ((c.requires.gate told).0 c.if-is_open.true) (c.in_ok-settle.ensures.written told).here (c.in_ok-settle.ensures.durable told)

pub returns-then-is_open-clause-shut : goal.returns-then-is_open-clause-shut
returns-then-is_open-clause-shut g c = λ told.
    let m = g.M.Media in
    close_shut (as_read m.seen) m.seen c.args.f c.args.media.now c.settle.new.media c.args.base c.requires.base (c.requires.bad told) (c.in_ok-settle.ensures.written told).here

pub returns-then-is_open-clause-others : goal.returns-then-is_open-clause-others
returns-then-is_open-clause-others g c = λ told.
    let m = g.M.Media in
    close_others (as_read m.seen) m.seen c.args.f c.args.media.now c.settle.new.media c.args.base c.requires.base (c.requires.bad told) (c.in_ok-settle.ensures.written told).here

pub returns-clause-crash : goal.returns-clause-crash
returns-clause-crash g c = λ told has.
    let m = g.M.Media in
    idle_empties m.time m.seen c.args.f c.args.media.now has
