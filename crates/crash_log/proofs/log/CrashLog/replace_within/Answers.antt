use Rattle.std.proofs.Common.{length, refl, sym, ◌∙◌, subst}
use Rattle.crash_log.specs.State.{settled_bytes, place_for, moved_to}
use Rattle.crash_log.specs.Fit.{Fits, as_read}
use Rattle.crash_log.specs.declared.state.LogState.{LogState}
use Rattle.crash_log.proofs.Committing.{before_put, still_before, either_log}
use Rattle.crash_log.proofs.Closing.{ready_log, ready_whole}
use Rattle.crash_log.proofs.Reading.{still_read, ready_still, sound_still}
use Rattle.crash_log.proofs.log.CrashLog.replace_within.Goals as goal

pub returns-in_err-mend-clause-crash : goal.returns-in_err-mend-clause-crash
returns-in_err-mend-clause-crash g c = λ told survives.
    let m = g.M.Media in
    let log = c.args.self.now.state in
    let file = (m.seen c.args.media.now).file log.file in
    before_put m.time log.file (settled_bytes log file) c.args.bytes.now c.args.media.now c.mend.new.media c.mend.new.media (c.mend.ensures.crash told survives)

pub returns-in_err-write_apart-clause-crash : goal.returns-in_err-write_apart-clause-crash
returns-in_err-write_apart-clause-crash g c = λ told survives.
    let m = g.M.Media in
    let log = c.args.self.now.state in
    let file = (m.seen c.args.media.now).file log.file in
    before_put m.time log.file (settled_bytes log file) c.args.bytes.now c.args.media.now c.write_apart.new.media c.write_apart.new.media
    (still_before m.time log.file (settled_bytes log file) c.args.bytes.now c.args.media.now c.mend.new.media c.write_apart.new.media _ (c.in_ok-mend.ensures.same told).settled (c.mend.ensures.crash told survives) (c.write_apart.ensures.crash told (c.in_ok-mend.ensures.survives told survives).ready))

pub returns-in_err-turn_over-clause-crash : goal.returns-in_err-turn_over-clause-crash
returns-in_err-turn_over-clause-crash g c = λ told survives.
    let m = g.M.Media in
    let log = c.args.self.now.state in
    let file = (m.seen c.args.media.now).file log.file in
    either_log m.time log.file (settled_bytes log file) c.args.bytes.now c.args.media.now c.write_apart.new.media c.turn_over.new.media _ _
    (c.in_ok-write_apart.ensures.settled told ∙ (c.in_ok-mend.ensures.same told).settled) (c.in_ok-write_apart.ensures.bytes told)
    (still_before m.time log.file (settled_bytes log file) c.args.bytes.now c.args.media.now c.mend.new.media c.write_apart.new.media _ (c.in_ok-mend.ensures.same told).settled (c.mend.ensures.crash told survives) (c.write_apart.ensures.crash told (c.in_ok-mend.ensures.survives told survives).ready))
    (c.turn_over.ensures.crash told (c.in_ok-write_apart.ensures.survives told (c.in_ok-mend.ensures.survives told survives).ready))

pub returns-clause-crash : goal.returns-clause-crash
returns-clause-crash g c = λ told survives.
    let m = g.M.Media in
    let log = c.args.self.now.state in
    let file = (m.seen c.args.media.now).file log.file in
    either_log m.time log.file (settled_bytes log file) c.args.bytes.now c.args.media.now c.write_apart.new.media c.turn_over.new.media _ _
    (c.in_ok-write_apart.ensures.settled told ∙ (c.in_ok-mend.ensures.same told).settled) (c.in_ok-write_apart.ensures.bytes told)
    (still_before m.time log.file (settled_bytes log file) c.args.bytes.now c.args.media.now c.mend.new.media c.write_apart.new.media _ (c.in_ok-mend.ensures.same told).settled (c.mend.ensures.crash told survives) (c.write_apart.ensures.crash told (c.in_ok-mend.ensures.survives told survives).ready))
    (c.turn_over.ensures.crash told (c.in_ok-write_apart.ensures.survives told (c.in_ok-mend.ensures.survives told survives).ready))

pub returns-clause-durable : goal.returns-clause-durable
returns-clause-durable g c = λ told.
    let m = g.M.Media in
    let log = c.args.self.now.state in
    let file = (m.seen c.args.media.now).file log.file in
    λ image left. ready_log m.time m.seen _ c.turn_over.new.media (ready_still m.time m.seen _ c.turn_over.new.media (c.in_ok-turn_over.ensures.still told) (c.in_ok-turn_over.ensures.ready told)) image left
    ∙ (c.in_ok-turn_over.ensures.same told).bytes c.free_start-at.result (length c.args.bytes.now) c.free_start-at.ensures.low ∙ c.in_ok-write_apart.ensures.bytes told

pub returns-clause-survives : goal.returns-clause-survives
returns-clause-survives g c = λ told.
    let m = g.M.Media in
    let log = c.args.self.now.state in
    subst (λ (l : LogState). Fits m.time m.seen l c.turn_over.new.media) (sym c.moved-self.ensures)
    (sound_still m.time m.seen (moved_to log (place_for log c.free_start-at.result (length c.args.bytes.now))) c.turn_over.new.media (c.in_ok-turn_over.ensures.still told) (c.in_ok-turn_over.ensures.ready told))

pub returns-clause-fits : goal.returns-clause-fits
returns-clause-fits g c = λ told.
    let m = g.M.Media in
    let log = c.args.self.now.state in
    subst (λ (l : LogState). Fits (as_read m.seen) m.seen l c.turn_over.new.media) (sym c.moved-self.ensures)
    (sound_still (as_read m.seen) m.seen (moved_to log (place_for log c.free_start-at.result (length c.args.bytes.now))) c.turn_over.new.media (still_read m.seen log.file c.turn_over.new.media) (c.in_ok-turn_over.ensures.ready told))

pub returns-clause-whole : goal.returns-clause-whole
returns-clause-whole g c = λ told.
    let m = g.M.Media in
    let log = c.args.self.now.state in
    ready_whole (as_read m.seen) m.seen (moved_to log (place_for log c.free_start-at.result (length c.args.bytes.now))) c.turn_over.new.media (c.in_ok-turn_over.ensures.ready told) (m.seen c.turn_over.new.media) refl
