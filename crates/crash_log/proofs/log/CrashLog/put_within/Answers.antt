use Rattle.std.proofs.Common.{◌+◌, length, ◌∙◌, arith}
use Rattle.crash_log.specs.State.{settled_bytes}
use Rattle.crash_log.specs.Fit.{as_read}
use Rattle.crash_log.proofs.Committing.{still_before}
use Rattle.crash_log.proofs.Changing.{put_grown}
use Rattle.crash_log.proofs.Reading.{still_read}
use Rattle.crash_log.proofs.WritingApart.{more_sound}
use Rattle.crash_log.proofs.log.CrashLog.put_within.Goals as goal

pub returns-in_err-write_apart-clause-crash : goal.returns-in_err-write_apart-clause-crash
returns-in_err-write_apart-clause-crash g c = λ told survives.
    let m = g.M.Media in
    let log = c.args.self.now.state in
    let file = (m.seen c.args.media.now).file log.file in
    still_before m.time log.file (settled_bytes log file) (settled_bytes log file) c.args.media.now c.mend.new.media c.write_apart.new.media _ (c.in_ok-mend.ensures.same told).settled (c.mend.ensures.crash told survives) (c.write_apart.ensures.crash told (c.in_ok-mend.ensures.survives told survives).ready)

pub returns-clause-crash : goal.returns-clause-crash
returns-clause-crash g c = λ told survives.
    let m = g.M.Media in
    let log = c.args.self.now.state in
    let file = (m.seen c.args.media.now).file log.file in
    still_before m.time log.file (settled_bytes log file) (settled_bytes log file) c.args.media.now c.mend.new.media c.write_apart.new.media _ (c.in_ok-mend.ensures.same told).settled (c.mend.ensures.crash told survives) (c.write_apart.ensures.crash told (c.in_ok-mend.ensures.survives told survives).ready)

pub returns-clause-fits : goal.returns-clause-fits
returns-clause-fits g c = λ told.
    let m = g.M.Media in
    let log = c.args.self.now.state in
    let file = (m.seen c.args.media.now).file log.file in
    more_sound (as_read m.seen) m.seen log c.write_apart.new.media (length c.args.piece.now) (c.in_ok-write_apart.ensures.ready told) (c.in_ok-write_apart.ensures.long told)
    (λ none. still_read m.seen log.file c.write_apart.new.media)

pub returns-clause-survives : goal.returns-clause-survives
returns-clause-survives g c = λ told survives.
    let m = g.M.Media in
    let log = c.args.self.now.state in
    let file = (m.seen c.args.media.now).file log.file in
    let sound = c.in_ok-mend.ensures.survives told survives in
    more_sound m.time m.seen log c.write_apart.new.media (length c.args.piece.now) (c.in_ok-write_apart.ensures.survives told sound.ready) (c.in_ok-write_apart.ensures.long told)
    (λ none. c.in_ok-write_apart.ensures.quiet told (sound.quiet (omega (arith, none))) (omega (arith, none)))

pub returns-clause-bytes : goal.returns-clause-bytes
returns-clause-bytes g c = λ told.
    let m = g.M.Media in
    let log = c.args.self.now.state in
    let file = (m.seen c.args.media.now).file log.file in
    put_grown log (length c.args.piece.now) file ((m.seen c.write_apart.new.media).file log.file) c.args.piece.now
    (c.in_ok-write_apart.ensures.before told log.start (log.size + log.more) (omega arith) ∙ (c.in_ok-mend.ensures.same told).put) (c.in_ok-write_apart.ensures.bytes told)
