use Rattle.std.proofs.Common.{ℕ, [], ◌∷◌, refl, subst}
use Rattle.crash_moments.specs.Moments.{Leads}
use Rattle.media_core.specs.Media.{AtFile, Torn, Holds}
use Rattle.crash_log.proofs.Opening.{opening, opened_same, now_ready}
use Rattle.crash_log.specs.State.{place_for}
use Rattle.crash_log.specs.Fit.{as_read}
use Rattle.crash_log.proofs.Reading.{still_read}
use Rattle.crash_log.proofs.turn.open_other.Goals as goal

pub returns-in_err-settle-clause-crash : goal.returns-in_err-settle-clause-crash
returns-in_err-settle-clause-crash g c = λ told named.
    let m = g.M.Media in
    opening m.time m.seen c.args.log.now (place_for c.args.log.now c.args.start c.args.size) c.args.media.now named (c.requires.next told) (g.met.M.Media.seen_may_be_left c.args.media.now told) c.settle.new.media
    (subst (λ (o : ℕ). Leads m.time c.args.media.now c.settle.new.media (AtFile c.args.log.now.file (Torn o 1))) c.other.ensures (c.settle.ensures.crash told))

pub returns-clause-crash : goal.returns-clause-crash
returns-clause-crash g c = λ told named.
    let m = g.M.Media in
    opening m.time m.seen c.args.log.now (place_for c.args.log.now c.args.start c.args.size) c.args.media.now named (c.requires.next told) (g.met.M.Media.seen_may_be_left c.args.media.now told) c.settle.new.media
    (subst (λ (o : ℕ). Leads m.time c.args.media.now c.settle.new.media (AtFile c.args.log.now.file (Torn o 1))) c.other.ensures (c.settle.ensures.crash told))

pub returns-clause-ready : goal.returns-clause-ready
returns-clause-ready g c = λ told.
    let m = g.M.Media in
    let f = c.args.log.now.file in
    let holds = subst (λ (o : ℕ). Holds o (1 ∷ []) ((m.seen c.args.media.now).file f) ((m.seen c.settle.new.media).file f)) c.other.ensures (c.in_ok-settle.ensures.written told).here in
    now_ready (as_read m.seen) m.seen c.args.log.now (place_for c.args.log.now c.args.start c.args.size) c.args.media.now (c.requires.named told) (c.requires.next told) refl c.settle.new.media holds (still_read m.seen f c.settle.new.media)

pub returns-clause-same : goal.returns-clause-same
returns-clause-same g c = λ told.
    let m = g.M.Media in
    let f = c.args.log.now.file in
    let holds = subst (λ (o : ℕ). Holds o (1 ∷ []) ((m.seen c.args.media.now).file f) ((m.seen c.settle.new.media).file f)) c.other.ensures (c.in_ok-settle.ensures.written told).here in
    opened_same (as_read m.seen) m.seen c.args.log.now (place_for c.args.log.now c.args.start c.args.size) c.args.media.now (c.requires.named told) (c.requires.next told) refl c.settle.new.media holds
