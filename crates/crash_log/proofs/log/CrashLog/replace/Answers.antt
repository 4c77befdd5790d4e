use Rattle.crash_log.specs.State.{settled_bytes}
use Rattle.crash_log.proofs.Committing.{before_put}
use Rattle.crash_log.proofs.Changing.{fits_idle}
use Rattle.crash_log.proofs.log.CrashLog.replace.Goals as goal

pub returns-then-bytes-self-clause-crash : goal.returns-then-bytes-self-clause-crash
returns-then-bytes-self-clause-crash g c = λ told survives.
    let m = g.M.Media in
    let log = c.args.self.now.state in
    let file = (m.seen c.args.media.now).file log.file in
    before_put m.time log.file (settled_bytes log file) c.args.bytes.now c.args.media.now c.args.media.now c.args.media.now (fits_idle m.time m.seen log c.args.media.now survives)
