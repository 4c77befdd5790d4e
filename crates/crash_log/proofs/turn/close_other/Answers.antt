use Rattle.std.proofs.Common.{ℕ, [], ◌∷◌, refl, subst}
use Rattle.crash_moments.specs.Moments.{Leads}
use Rattle.media_core.specs.Media.{AtFile, Torn, Holds}
use Rattle.crash_log.proofs.Closing.{closing, idle, idle_closed, closed_same, now_closed}
use Rattle.crash_log.specs.Fit.{as_read}
use Rattle.crash_log.proofs.Reading.{still_read}
use Rattle.crash_log.proofs.turn.close_other.Goals as goal

pub returns-in_err-settle-clause-crash : goal.returns-in_err-settle-clause-crash
returns-in_err-settle-clause-crash g c = λ told ready.
    let m = g.M.Media in
    closing m.time m.seen c.args.log.now c.args.media.now ready c.if-log.true c.settle.new.media
    (subst (λ (o : ℕ). Leads m.time c.args.media.now c.settle.new.media (AtFile c.args.log.now.file (Torn o 1))) c.other.ensures (c.settle.ensures.crash told))

pub returns-then-log-clause-crash : goal.returns-then-log-clause-crash
returns-then-log-clause-crash g c = λ told ready.
    let m = g.M.Media in
    closing m.time m.seen c.args.log.now c.args.media.now ready c.if-log.true c.settle.new.media
    (subst (λ (o : ℕ). Leads m.time c.args.media.now c.settle.new.media (AtFile c.args.log.now.file (Torn o 1))) c.other.ensures (c.settle.ensures.crash told))

pub returns-clause-crash : goal.returns-clause-crash
returns-clause-crash g c = λ told ready. idle g.M.Media.time g.M.Media.seen c.args.log.now c.args.media.now ready

pub returns-clause-closed : goal.returns-clause-closed
returns-clause-closed g c = λ told. idle_closed (as_read g.M.Media.seen) g.M.Media.seen c.args.log.now c.args.media.now (c.requires.ready told) c.if-log.false

pub returns-clause-survives : goal.returns-clause-survives
returns-clause-survives g c = λ told ready. idle_closed g.M.Media.time g.M.Media.seen c.args.log.now c.args.media.now ready c.if-log.false

pub returns-then-log-clause-closed : goal.returns-then-log-clause-closed
returns-then-log-clause-closed g c = λ told.
    let m = g.M.Media in
    let f = c.args.log.now.file in
    let holds = subst (λ (o : ℕ). Holds o (0 ∷ []) ((m.seen c.args.media.now).file f) ((m.seen c.settle.new.media).file f)) c.other.ensures (c.in_ok-settle.ensures.written told).here in
    now_closed (as_read m.seen) m.seen c.args.log.now c.args.media.now (c.requires.ready told) c.settle.new.media refl holds (still_read m.seen f c.settle.new.media)

pub returns-then-log-clause-survives : goal.returns-then-log-clause-survives
returns-then-log-clause-survives g c = λ told ready.
    let m = g.M.Media in
    let f = c.args.log.now.file in
    let holds = subst (λ (o : ℕ). Holds o (0 ∷ []) ((m.seen c.args.media.now).file f) ((m.seen c.settle.new.media).file f)) c.other.ensures (c.in_ok-settle.ensures.written told).here in
    now_closed m.time m.seen c.args.log.now c.args.media.now ready c.settle.new.media (g.met.M.Media.seen_may_be_left c.args.media.now told) holds (c.in_ok-settle.ensures.durable told)

pub returns-then-log-clause-same : goal.returns-then-log-clause-same
returns-then-log-clause-same g c = λ told.
    let m = g.M.Media in
    let f = c.args.log.now.file in
    let holds = subst (λ (o : ℕ). Holds o (0 ∷ []) ((m.seen c.args.media.now).file f) ((m.seen c.settle.new.media).file f)) c.other.ensures (c.in_ok-settle.ensures.written told).here in
    closed_same (as_read m.seen) m.seen c.args.log.now c.args.media.now (c.requires.ready told) c.settle.new.media refl holds
