use Rattle.std.proofs.Common.{◌≡◌, ◌<◌, length, sym, ◌∙◌, ap, subst, arith}
use Rattle.media_core.specs.Media.{Image}
use Rattle.crash_log.specs.Opened.{IsOpened}
use Rattle.crash_log.specs.declared.state.LogState.{LogState}
use Rattle.crash_log.proofs.OpenedLemmas.{same_twice, opened_blank}
use Rattle.crash_log.specs.Fit.{as_read}
use Rattle.crash_log.proofs.Reading.{still_read}
use Rattle.crash_log.proofs.open.read_state.Goals as goal

pub returns-then-long-lt-SLOTS-clause-opened : goal.returns-then-long-lt-SLOTS-clause-opened
returns-then-long-lt-SLOTS-clause-opened g c = λ told.
    let m = g.M.Media in
    let f = c.args.f in
    let now = c.len.new.self in
    let seen = c.len.ensures.seen told in
    let long : c.in_ok-long.long ≡ length ((m.seen now).file f) = c.in_ok-long.ensures.length told ∙ sym (ap (λ (i : Image). length (i.file f)) seen) in
    let short : length ((m.seen now).file f) < 8192 = omega (arith, long, c.if-long-lt-SLOTS.true) in
    subst (λ (s : LogState). IsOpened (as_read m.seen) m.seen f now s) (sym c.empty.ensures)
    (opened_blank (as_read m.seen) m.seen now f c.args.limit (still_read m.seen f now) short)

pub returns-clause-crash : goal.returns-clause-crash
returns-clause-crash g c = λ told. same_twice g.M.Media.time c.args.media.now c.len.new.self c.state_of_slots.new.media (c.len.ensures.crash told) (c.state_of_slots.ensures.crash told)
