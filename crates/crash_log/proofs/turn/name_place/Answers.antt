use Rattle.std.proofs.Common.{◌≡◌, ℕ, ◌+◌, ◌∙◌, refl, subst}
use Rattle.crash_moments.specs.Moments.{Leads}
use Rattle.media_core.specs.Media.{AtFile, Torn, Holds}
use Rattle.crash_log.proofs.Naming.{naming, named_same, now_named}
use Rattle.crash_log.specs.Log.{place_of}
use Rattle.crash_log.specs.State.{place_for}
use Rattle.crash_log.specs.Fit.{as_read}
use Rattle.crash_log.proofs.Reading.{still_read}
use Rattle.crash_log.proofs.turn.name_place.Goals as goal

pub returns-in_err-settle_fields-clause-crash : goal.returns-in_err-settle_fields-clause-crash
returns-in_err-settle_fields-clause-crash g c = λ told closed.
    let m = g.M.Media in
    naming m.time m.seen c.args.log.now c.args.media.now closed c.settle_fields.new.media
    (subst (λ (o : ℕ). Leads m.time c.args.media.now c.settle_fields.new.media (AtFile c.args.log.now.file (Torn (o + 1) 23))) c.other.ensures
    (c.settle_fields.ensures.crash told))

pub returns-clause-crash : goal.returns-clause-crash
returns-clause-crash g c = λ told closed.
    let m = g.M.Media in
    naming m.time m.seen c.args.log.now c.args.media.now closed c.settle_fields.new.media
    (subst (λ (o : ℕ). Leads m.time c.args.media.now c.settle_fields.new.media (AtFile c.args.log.now.file (Torn (o + 1) 23))) c.other.ensures
    (c.settle_fields.ensures.crash told))

pub returns-clause-named : goal.returns-clause-named
returns-clause-named g c = λ told.
    let m = g.M.Media in
    let f = c.args.log.now.file in
    let p = place_for c.args.log.now c.args.start c.args.size in
    let holds = subst (λ (o : ℕ). Holds (o + 1) c.fields-fields.result ((m.seen c.args.media.now).file f) ((m.seen c.settle_fields.new.media).file f)) c.other.ensures (c.in_ok-settle_fields.ensures.written told).here in
    let place : place_of c.fields-fields.result ≡ p = c.fields-fields.ensures.place ∙ (λ i. record { turn = c.following.ensures i; start = c.args.start; size = c.args.size }) in
    now_named (as_read m.seen) m.seen c.args.log.now c.args.media.now (c.requires.closed told) c.settle_fields.new.media refl c.fields-fields.result c.fields-fields.ensures.length p place holds (still_read m.seen f c.settle_fields.new.media)

pub returns-clause-same : goal.returns-clause-same
returns-clause-same g c = λ told.
    let m = g.M.Media in
    let f = c.args.log.now.file in
    let p = place_for c.args.log.now c.args.start c.args.size in
    let holds = subst (λ (o : ℕ). Holds (o + 1) c.fields-fields.result ((m.seen c.args.media.now).file f) ((m.seen c.settle_fields.new.media).file f)) c.other.ensures (c.in_ok-settle_fields.ensures.written told).here in
    let place : place_of c.fields-fields.result ≡ p = c.fields-fields.ensures.place ∙ (λ i. record { turn = c.following.ensures i; start = c.args.start; size = c.args.size }) in
    named_same (as_read m.seen) m.seen c.args.log.now c.args.media.now (c.requires.closed told) c.settle_fields.new.media refl c.fields-fields.result c.fields-fields.ensures.length p place holds
