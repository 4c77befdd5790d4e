use Rattle.std.proofs.Common.{ℕ, ◌+◌, List, take, refl, sym, ◌∙◌, ap, subst}
use Rattle.crash_log.specs.State.{put_bytes, settled_bytes, place_for, moved_to}
use Rattle.crash_log.specs.Fit.{Fits, as_read}
use Rattle.crash_log.specs.declared.state.LogState.{LogState}
use Rattle.crash_log.proofs.Committing.{before_put, either_log}
use Rattle.crash_log.proofs.Changing.{span_front, moved_bytes}
use Rattle.crash_log.proofs.Closing.{ready_log, ready_whole}
use Rattle.crash_log.proofs.Reading.{still_read, ready_still, sound_still}
use Rattle.crash_log.proofs.log.CrashLog.cut.Goals as goal

pub returns-in_err-mend-clause-crash : goal.returns-in_err-mend-clause-crash
returns-in_err-mend-clause-crash g c = λ told survives.
    let m = g.M.Media in
    let log = c.args.self.now.state in
    let file = (m.seen c.args.media.now).file log.file in
    before_put m.time log.file (settled_bytes log file) (take c.args.n (put_bytes log file)) c.args.media.now c.mend.new.media c.mend.new.media (c.mend.ensures.crash told survives)

pub returns-in_err-turn_over-clause-crash : goal.returns-in_err-turn_over-clause-crash
returns-in_err-turn_over-clause-crash g c = λ told survives.
    let m = g.M.Media in
    let log = c.args.self.now.state in
    let file = (m.seen c.args.media.now).file log.file in
    either_log m.time log.file (settled_bytes log file) (take c.args.n (put_bytes log file)) c.args.media.now c.mend.new.media c.turn_over.new.media _ _ (c.in_ok-mend.ensures.same told).settled (span_front log.start (log.size + log.more) c.args.n ((m.seen c.mend.new.media).file log.file) c.requires.within ∙ ap (λ (l : List ℕ). take c.args.n l) (c.in_ok-mend.ensures.same told).put) (c.mend.ensures.crash told survives) (c.turn_over.ensures.crash told (c.in_ok-mend.ensures.survives told survives).ready)

pub returns-clause-crash : goal.returns-clause-crash
returns-clause-crash g c = λ told survives.
    let m = g.M.Media in
    let log = c.args.self.now.state in
    let file = (m.seen c.args.media.now).file log.file in
    either_log m.time log.file (settled_bytes log file) (take c.args.n (put_bytes log file)) c.args.media.now c.mend.new.media c.turn_over.new.media _ _ (c.in_ok-mend.ensures.same told).settled (span_front log.start (log.size + log.more) c.args.n ((m.seen c.mend.new.media).file log.file) c.requires.within ∙ ap (λ (l : List ℕ). take c.args.n l) (c.in_ok-mend.ensures.same told).put) (c.mend.ensures.crash told survives) (c.turn_over.ensures.crash told (c.in_ok-mend.ensures.survives told survives).ready)

pub returns-clause-bytes : goal.returns-clause-bytes
returns-clause-bytes g c = λ told.
    let m = g.M.Media in
    let log = c.args.self.now.state in
    let file = (m.seen c.args.media.now).file log.file in
    moved_bytes log c.moved-self.result (place_for log log.start c.args.n) ((m.seen c.turn_over.new.media).file log.file) c.moved-self.ensures
    ∙ (c.in_ok-turn_over.ensures.same told).bytes log.start c.args.n c.args.self.now.bounded.low ∙ (span_front log.start (log.size + log.more) c.args.n ((m.seen c.mend.new.media).file log.file) c.requires.within ∙ ap (λ (l : List ℕ). take c.args.n l) (c.in_ok-mend.ensures.same told).put)

pub returns-clause-durable : goal.returns-clause-durable
returns-clause-durable g c = λ told.
    let m = g.M.Media in
    let log = c.args.self.now.state in
    let file = (m.seen c.args.media.now).file log.file in
    λ image left. ready_log m.time m.seen _ c.turn_over.new.media (ready_still m.time m.seen _ c.turn_over.new.media (c.in_ok-turn_over.ensures.still told) (c.in_ok-turn_over.ensures.ready told)) image left ∙ (c.in_ok-turn_over.ensures.same told).bytes log.start c.args.n c.args.self.now.bounded.low ∙ (span_front log.start (log.size + log.more) c.args.n ((m.seen c.mend.new.media).file log.file) c.requires.within ∙ ap (λ (l : List ℕ). take c.args.n l) (c.in_ok-mend.ensures.same told).put)

pub returns-clause-survives : goal.returns-clause-survives
returns-clause-survives g c = λ told.
    let m = g.M.Media in
    let log = c.args.self.now.state in
    subst (λ (l : LogState). Fits m.time m.seen l c.turn_over.new.media) (sym c.moved-self.ensures)
    (sound_still m.time m.seen (moved_to log (place_for log log.start c.args.n)) c.turn_over.new.media (c.in_ok-turn_over.ensures.still told) (c.in_ok-turn_over.ensures.ready told))

pub returns-clause-fits : goal.returns-clause-fits
returns-clause-fits g c = λ told.
    let m = g.M.Media in
    let log = c.args.self.now.state in
    subst (λ (l : LogState). Fits (as_read m.seen) m.seen l c.turn_over.new.media) (sym c.moved-self.ensures)
    (sound_still (as_read m.seen) m.seen (moved_to log (place_for log log.start c.args.n)) c.turn_over.new.media (still_read m.seen log.file c.turn_over.new.media) (c.in_ok-turn_over.ensures.ready told))

pub returns-clause-whole : goal.returns-clause-whole
returns-clause-whole g c = λ told.
    let m = g.M.Media in
    let log = c.args.self.now.state in
    ready_whole (as_read m.seen) m.seen (moved_to log (place_for log log.start c.args.n)) c.turn_over.new.media (c.in_ok-turn_over.ensures.ready told) (m.seen c.turn_over.new.media) refl
