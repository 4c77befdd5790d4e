use Rattle.std.proofs.Common.{ℕ, subst}
use Rattle.crash_moments.specs.Moments.{Leads}
use Rattle.media_core.specs.Media.{AtFile, Torn}
use Rattle.crash_log.proofs.Formatting.{front_empties, front_has}
use Rattle.crash_log.specs.Fit.{as_read}
use Rattle.crash_log.proofs.Reading.{still_read}
use Rattle.crash_log.proofs.format.write_front.Goals as goal

pub returns-in_err-settle-clause-crash : goal.returns-in_err-settle-clause-crash
returns-in_err-settle-clause-crash g c = λ told still.
    let m = g.M.Media in
    front_empties m.time m.seen c.args.f c.args.media.now c.settle.new.media still (c.requires.short told)
    (subst (λ (n : ℕ). Leads m.time c.args.media.now c.settle.new.media (AtFile c.args.f (Torn 0 n))) c.front.ensures.size (c.settle.ensures.crash told))

pub returns-clause-crash : goal.returns-clause-crash
returns-clause-crash g c = λ told still.
    let m = g.M.Media in
    front_empties m.time m.seen c.args.f c.args.media.now c.settle.new.media still (c.requires.short told)
    (subst (λ (n : ℕ). Leads m.time c.args.media.now c.settle.new.media (AtFile c.args.f (Torn 0 n))) c.front.ensures.size (c.settle.ensures.crash told))

pub returns-clause-front : goal.returns-clause-front
returns-clause-front g c = λ told.
    let m = g.M.Media in
    front_has (as_read m.seen) m.seen c.args.f c.args.media.now c.settle.new.media c.front.result c.front.ensures (c.requires.short told) (c.in_ok-settle.ensures.written told).here (still_read m.seen c.args.f c.settle.new.media)
