use Rattle.std.proofs.Common.{refl, ◌∙◌, arith}
use Rattle.crash_log.specs.Log.{span}
use Rattle.crash_log.specs.State.{settled_bytes, place_for}
use Rattle.crash_log.proofs.Committing.{before_put, still_before, either_log}
use Rattle.crash_log.proofs.Reading.{named_still}
use Rattle.crash_log.proofs.turn.turn_over.Goals as goal

pub open_other-requires-clause-next : goal.open_other-requires-clause-next
open_other-requires-clause-next g c = λ told.
    let closed = c.in_ok-close_other.ensures.same told in
    let named = c.in_ok-name_place.ensures.same told in
    record { fine = c.requires.fine; turn = refl; within = omega (arith, c.requires.within told, closed.long, named.long) }

pub returns-in_err-close_other-clause-crash : goal.returns-in_err-close_other-clause-crash
returns-in_err-close_other-clause-crash g c = λ told ready. before_put g.M.Media.time c.args.log.now.file _ _ c.args.media.now c.close_other.new.media c.close_other.new.media (c.close_other.ensures.crash told ready)

pub returns-in_err-name_place-clause-crash : goal.returns-in_err-name_place-clause-crash
returns-in_err-name_place-clause-crash g c = λ told ready.
    let m = g.M.Media in
    let log = c.args.log.now in
    let file = (m.seen c.args.media.now).file log.file in
    let fine = ready.fine in
    before_put m.time log.file (settled_bytes log file) (span c.args.start c.args.size file) c.args.media.now c.name_place.new.media c.name_place.new.media
    (still_before m.time log.file (settled_bytes log file) (span c.args.start c.args.size file) c.args.media.now c.close_other.new.media c.name_place.new.media _
    ((c.in_ok-close_other.ensures.same told).bytes log.start log.size fine.low) (c.close_other.ensures.crash told ready) (c.name_place.ensures.crash told (c.in_ok-close_other.ensures.survives told ready)))

pub returns-in_err-open_other-clause-crash : goal.returns-in_err-open_other-clause-crash
returns-in_err-open_other-clause-crash g c = λ told ready.
    let m = g.M.Media in
    let log = c.args.log.now in
    let file = (m.seen c.args.media.now).file log.file in
    let fine = ready.fine in
    let closed = c.in_ok-close_other.ensures.same told in
    let named = c.in_ok-name_place.ensures.same told in
    let stands = named_still m.time m.seen log c.name_place.new.media (c.in_ok-name_place.ensures.still told) (place_for log c.args.start c.args.size) (c.in_ok-name_place.ensures.named told) in
    either_log m.time log.file (settled_bytes log file) (span c.args.start c.args.size file) c.args.media.now c.name_place.new.media c.open_other.new.media _ _
    (named.bytes log.start log.size fine.low ∙ closed.bytes log.start log.size fine.low) (named.bytes c.args.start c.args.size c.requires.fine.low ∙ closed.bytes c.args.start c.args.size c.requires.fine.low)
    (still_before m.time log.file (settled_bytes log file) (span c.args.start c.args.size file) c.args.media.now c.close_other.new.media c.name_place.new.media _
    (closed.bytes log.start log.size fine.low) (c.close_other.ensures.crash told ready) (c.name_place.ensures.crash told (c.in_ok-close_other.ensures.survives told ready)))
    (c.open_other.ensures.crash told stands)

pub returns-clause-crash : goal.returns-clause-crash
returns-clause-crash g c = λ told ready.
    let m = g.M.Media in
    let log = c.args.log.now in
    let file = (m.seen c.args.media.now).file log.file in
    let fine = ready.fine in
    let closed = c.in_ok-close_other.ensures.same told in
    let named = c.in_ok-name_place.ensures.same told in
    let stands = named_still m.time m.seen log c.name_place.new.media (c.in_ok-name_place.ensures.still told) (place_for log c.args.start c.args.size) (c.in_ok-name_place.ensures.named told) in
    either_log m.time log.file (settled_bytes log file) (span c.args.start c.args.size file) c.args.media.now c.name_place.new.media c.open_other.new.media _ _
    (named.bytes log.start log.size fine.low ∙ closed.bytes log.start log.size fine.low) (named.bytes c.args.start c.args.size c.requires.fine.low ∙ closed.bytes c.args.start c.args.size c.requires.fine.low)
    (still_before m.time log.file (settled_bytes log file) (span c.args.start c.args.size file) c.args.media.now c.close_other.new.media c.name_place.new.media _
    (closed.bytes log.start log.size fine.low) (c.close_other.ensures.crash told ready) (c.name_place.ensures.crash told (c.in_ok-close_other.ensures.survives told ready)))
    (c.open_other.ensures.crash told stands)
